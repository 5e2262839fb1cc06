-- When a credential of one table says what a credential of another says, though cells, automata and edges may have other numbers.
use Rattle.std.specs.Prelude.{ℕ, ◌≡◌, List, Bool, true}
use Rattle.table.specs.Layout
use Rattle.table.specs.Layout.{Numbered, automata, automaton, credential, credentials, edge, edges, parts}
use Rattle.table.specs.declared.Edge.{Edge}
use Rattle.derivation.specs.Rules
use Rattle.agreement.specs.Agrees.{Renumbers}

-- the same edge, of automaton k'
pub record SameEdge (e e' : Edge) (k' : ℕ) : Type 0 where
  pub automaton : e'.automaton ≡ k'
  pub from : e'.from ≡ e.from
  pub label : e'.label ≡ e.label
  pub role : e'.role ≡ e.role
  pub to : e'.to ≡ e.to

-- each edge of automaton k has its like among those of k'
abbrev pub HasEdges : List ℕ → ℕ → List ℕ → ℕ → Type 0
HasEdges t k t' k' =
    (x : ℕ) → Numbered (edges t) x → (edge t x).automaton ≡ k
    → (x' : ℕ) × Numbered (edges t') x' × SameEdge (edge t x) (edge t' x') k'

pub record SameAutomaton (t : List ℕ) (k : ℕ) (t' : List ℕ) (k' : ℕ) : Type 0 where
  pub there : Numbered (automata t) k
  pub there' : Numbered (automata t') k'
  pub starting : (automaton t' k').starting ≡ (automaton t k).starting
  pub accepting : (automaton t' k').accepting ≡ (automaton t k).accepting
  pub mark : (automaton t' k').mark ≡ (automaton t k).mark
  pub edges : HasEdges t k t' k'
  pub edges' : HasEdges t' k' t k

pub data SameConstraint (t : List ℕ) (k : ℕ) (t' : List ℕ) (k' : ℕ) : Type 0 where
  free : k ≡ 0 → k' ≡ 0 → SameConstraint t k t' k'
  constrained : SameAutomaton t k t' k' → SameConstraint t k t' k'

pub record SameCredential (t : List ℕ) (c : ℕ) (t' : List ℕ) (c' : ℕ) : Type 0 where
  -- either may be used where the other may
  pub usable : Rules.usable t' c' ≡ Rules.usable t c
  pub role : (credential t' c').role ≡ (credential t c).role
  pub kind : (credential t' c').kind ≡ (credential t c).kind
  pub second : (credential t' c').second ≡ (credential t c).second
  pub first : ((credential t c).kind ≡ 4 → ⊥) → (credential t' c').first ≡ (credential t c).first
  pub parts : (credential t c).kind ≡ 4 → parts t' (credential t' c').first ≡ parts t (credential t c).first
  pub constraint : SameConstraint t (credential t c).automaton t' (credential t' c').automaton

-- the credentials that are `mine` say in t', by the numbers that `to` gives, what they say in t
pub record Alike (t t' : List ℕ) (mine theirs : ℕ → Bool) (to from : ℕ → ℕ) : Type 0 where
  pub renumbers : Renumbers (credentials t) (credentials t') mine theirs to from
  pub credential : (c : ℕ) → mine c ≡ true → SameCredential t c t' (to c)

-- everything but the credentials is equal
pub record SameBeside (t t' : List ℕ) : Type 0 where
  pub cells : Layout.cells t' ≡ Layout.cells t
  pub automata : Layout.automata t' ≡ Layout.automata t
  pub edges : Layout.edges t' ≡ Layout.edges t
  pub cell : (j : ℕ) → Numbered (Layout.cells t) j → Layout.cell t' j ≡ Layout.cell t j
  pub automaton : (k : ℕ) → Numbered (Layout.automata t) k → Layout.automaton t' k ≡ Layout.automaton t k
  pub edge : (x : ℕ) → Numbered (Layout.edges t) x → Layout.edge t' x ≡ Layout.edge t x
