-- Credentials that say the same ask, end and demand the same; so tables whose credentials are alike agree.
use mathlib.Core.Path.{◌≡◌, refl, sym, ap, ap₂, fun_ext, ◌∙◌}
use mathlib.Core.List.{List, [], ◌∷◌}
use mathlib.Core.Bool.{Bool, true}
use Prim.Native.Nat.{ℕ}
use native.Mathlib.Omega.{arith}
use native.Mathlib.Decide.{ℕ_discrete}
use lib.Dec.{eqb}
use borrow.Author.Tests.{eqb-true, eq-eqb, ne_eqb}
use Rattle.sets.specs.Logic.{◌or◌, pick}
use Rattle.sets.specs.Sets.{in_set}
use Rattle.sets.proofs.Tests.{and_both, and_first, and_second, same_test}
use Rattle.sets.proofs.Members.{same-members}
use Rattle.table.specs.Layout.{credential, credentials, edge, edges, parts}
use Rattle.table.proofs.Fields.{range-within}
use Rattle.table.specs.declared.Goal.{Goal}
use Rattle.table.specs.declared.Role.{Role}
use Rattle.table.specs.declared.Edge.{Edge}
use Rattle.table.specs.declared.Credential.{Credential}
use Rattle.edges.specs.Edges.{leads, matches}
use Rattle.automata.specs.Automata.{accepts, accepts_from, moved, run, run_by, starting}
use Rattle.automata.proofs.Moves.{moved-reached, moved-shows}
use Rattle.derivation.specs.Rules.{asks, asks_by, premises, premises_by}
use Rattle.derivation.specs.Words.{demanded_by, is_met}
use Rattle.agreement.specs.Meaning.{demands_of, meaning}
use Rattle.agreement.specs.Agrees.{Agrees, Carries}
use Rattle.agreement.specs.Records.{Alike, HasEdges, SameAutomaton, SameConstraint, SameCredential, SameEdge}
use Rattle.agreement.specs.Promised.{AlikeBack}
use Rattle.agreement.specs.Records.SameConstraint.{constrained, free}
use Rattle.agreement.proofs.Tables.{table-numbers}

-- automata that have the same edges read a word alike
leads-alike : (k k' : ℕ) (r : Role) (x : ℕ) (e e' : Edge) → SameEdge e e' k' → leads k r x e ≡ true → leads k' r x e' ≡ true
unfolding leads matches
leads-alike k k' r x e e' same h =
    and_both (eq-eqb e'.automaton k' same.automaton) (rw (same.from, same.label, same.role) (and_second _ _ h))

leads-own : (k : ℕ) (r : Role) (x : ℕ) (e : Edge) → leads k r x e ≡ true → e.automaton ≡ k
unfolding leads
leads-own k r x e h = eqb-true e.automaton k (and_first _ _ h)

moved-among : (t : List ℕ) (k : ℕ) (t' : List ℕ) (k' : ℕ) → HasEdges t k t' k' → (r : Role) (x s : ℕ)
    → in_set (moved t k r x) s ≡ true → in_set (moved t' k' r x) s ≡ true
unfolding moved
moved-among t k t' k' has r x s h =
    let (i, there, on, to) = moved-shows t k r x (edges t) s h in
    let own : (edge t i).automaton ≡ k = leads-own k r x (edge t i) on in
    let (i', there', same) = has i there own in
    moved-reached t' k' r x (edges t') s i' there' (leads-alike k k' r x (edge t i) (edge t' i') same on) (same.to ∙ to)

module _ (t : List ℕ) (k : ℕ) (t' : List ℕ) (k' : ℕ) (same : SameAutomaton t k t' k') where
  moved-alike : (r : Role) (x : ℕ) → moved t' k' r x ≡ moved t k r x
  moved-alike r x =
      same-members _ _
      (λ s. same_test _ _ (moved-among t' k' t k same.edges' r x s) (moved-among t k t' k' same.edges r x s))

  run-alike : (x : ℕ) (word : List Role) → run t' k' x word ≡ run t k x word
  unfolding run_by
  run-alike x [] = refl
  run-alike x (r ∷ word) = rw (moved-alike r x) (run-alike (moved t k r x) word)

  accepts-alike : (word : List Role) → accepts t' k' word ≡ accepts t k word
  unfolding accepts accepts_from starting pick
  accepts-alike word =
      rw (range-within _ k same.there, range-within _ k' same.there', same.starting, same.accepting, run-alike)

  pub met-alike : (ws : List (List Role)) → is_met t' k' ws ≡ is_met t k ws
  met-alike ws = ap₂ (λ mark test. demanded_by mark test ws) same.mark (fun_ext accepts-alike)

-- credentials that say the same ask the same
module _ (t t' : List ℕ) (g : Goal) (m : ℕ) (c c' : Credential) (role : c'.role ≡ c.role) (kind : c'.kind ≡ c.kind)
    (second : c'.second ≡ c.second) where
  asks-alike : ((c.kind ≡ 4 → ⊥) → c'.first ≡ c.first) → (c.kind ≡ 4 → parts t' c'.first ≡ parts t c.first)
      → Dec (c.kind ≡ 4) → asks t' g c' m ≡ asks t g c m
  unfolding asks_by pick
  asks-alike first same (yes four) = rw (kind, four, same four)
  asks-alike first same (no other) = rw (kind, ne_eqb c.kind 4 other, role, second, first other)

module _ (t : List ℕ) (c : ℕ) (t' : List ℕ) (c' : ℕ) (same : SameCredential t c t' c') where
  pub premises-alike : (g : Goal) (m : ℕ) → premises t' g c' m ≡ premises t g c m
  unfolding premises premises_by
  premises-alike g m =
      let asked = asks-alike t t' g m (credential t c) (credential t' c') same.role same.kind same.second same.first
      same.parts (ℕ_discrete (credential t c).kind 4) in
      rw (asked, same.usable, same.role)

  pub demands-alike : (ws : List (List Role)) → (meaning t').demands c' ws ≡ (meaning t).demands c ws
  unfolding demands_of ◌or◌
  demands-alike ws = go same.constraint
    where
      go : SameConstraint t (credential t c).automaton t' (credential t' c').automaton
          → (eqb (credential t' c').automaton 0 or is_met t' (credential t' c').automaton ws)
          ≡ (eqb (credential t c).automaton 0 or is_met t (credential t c).automaton ws)
      go (free e e') = rw (e, e')
      go (constrained both) =
          let other = both.there in
          let other' = both.there' in
          rw (
            ne_eqb (credential t c).automaton 0 (λ z. omega arith),
            ne_eqb (credential t' c').automaton 0 (λ z. omega arith),
            met-alike t (credential t c).automaton t' (credential t' c').automaton both ws,
          )

-- and the other way round
turned-constraint : (t : List ℕ) (k : ℕ) (t' : List ℕ) (k' : ℕ) → SameConstraint t k t' k' → SameConstraint t' k' t k
turned-constraint t k t' k' (free e e') = free e' e
turned-constraint t k t' k' (constrained both) =
    constrained record {
      there = both.there';
      there' = both.there;
      starting = sym both.starting;
      accepting = sym both.accepting;
      mark = sym both.mark;
      edges = both.edges';
      edges' = both.edges;
    }

turned-credential : (t : List ℕ) (c : ℕ) (t' : List ℕ) (c' : ℕ) → SameCredential t c t' c' → SameCredential t' c' t c
turned-credential t c t' c' same =
    record {
      usable = sym same.usable;
      role = sym same.role;
      kind = sym same.kind;
      second = sym same.second;
      first = λ other. sym (same.first (λ four. other (same.kind ∙ four)));
      parts = λ four. sym (same.parts (sym same.kind ∙ four));
      constraint = turned-constraint t _ t' _ same.constraint;
    }

alike-carries : (t t' : List ℕ) (mine : ℕ → Bool) (to : ℕ → ℕ)
    → ((c : ℕ) → mine c ≡ true → SameCredential t c t' (to c))
    → Carries (meaning t) (meaning t') (λ c m. mine c ≡ true) to
alike-carries t t' mine to same =
    record {
      asks = λ g c m goals own applies. premises-alike t c t' (to c) (same c own) g m ∙ applies;
      role = λ c m own. (same c own).role;
      ends = λ c m own. ap (λ k. eqb k 1) (same c own).kind;
      demands = λ c m own ws. demands-alike t c t' (to c) (same c own) ws;
    }

credential-back : (t t' : List ℕ) (mine theirs : ℕ → Bool) (to from : ℕ → ℕ) → Alike t t' mine theirs to from
    → (c' : ℕ) → theirs c' ≡ true → SameCredential t' c' t (from c')
credential-back t t' mine theirs to from a c' own =
    let here = a.credential (from c') (a.renumbers.backward.there c' own) in
    turned-credential t (from c') t' c' (rw (a.renumbers.backward.back c' own) at here)

pub alike-agrees : (t t' : List ℕ) (mine theirs : ℕ → Bool) (to from : ℕ → ℕ) → Alike t t' mine theirs to from
    → Agrees (meaning t) (meaning t') (credentials t) (credentials t') mine theirs to from
alike-agrees t t' mine theirs to from a =
    record {
      numbers = table-numbers t;
      numbers' = table-numbers t';
      renumbers = a.renumbers;
      carries = alike-carries t t' mine to a.credential;
      carries-back = alike-carries t' t theirs from (credential-back t t' mine theirs to from a);
    }

pub alike-back : AlikeBack
alike-back t t' mine theirs to from a =
    record {
      renumbers = record { onward = a.renumbers.backward; backward = a.renumbers.onward };
      credential = credential-back t t' mine theirs to from a;
    }
