-- An accepted table of today's layout means what its records mean.
use mathlib.Core.Path.{◌≡◌, refl, sym, ap, ap₂, fun_ext, ◌∙◌}
use mathlib.Core.List.{List}
use mathlib.Core.Bool.{Bool, true, false}
use mathlib.Core.Option.{Option, none}
use Prim.Native.Nat.{ℕ, zero, suc, ◌≤◌}
use native.Mathlib.Omega.{arith}
use native.Mathlib.Decide.{ℕ_discrete}
use lib.Dec.{eqb}
use borrow.Author.Tests.{ne_eqb}
use Rattle.sets.specs.Logic.{◌and◌, ◌or◌, pick}
use Rattle.table.specs.Limits.{most_principals}
use Rattle.table.specs.Encoded.{automaton_of, credential_of, edge_of}
use Rattle.table.specs.Layout.{Numbered, automata, automaton, cell, cells, credential, credentials, edge, edges}
use Rattle.table.specs.Layout.{parts_by, role, same_role}
use Rattle.table.specs.Holding.{WellFormed}
use Rattle.table.specs.Checks.{within}
use Rattle.table.specs.declared.Credential.{Credential}
use Rattle.table.specs.declared.Cell.{Cell}
use Rattle.table.specs.declared.Automaton.{Automaton}
use Rattle.table.specs.declared.Edge.{Edge}
use Rattle.table.specs.declared.Goal.{Goal}
use Rattle.table.specs.declared.Role.{Role}
use Rattle.table.proofs.Fields.{range-within, within-range}
use Rattle.table.proofs.WellFormed.{wf-cell, wf-credential}
use Rattle.automata.specs.Automata.{accepts, accepts_from, moved, moved_by, starting}
use Rattle.derivation.specs.Rules.{asks, asks_by, premises, premises_by, usable, usable_by}
use Rattle.derivation.specs.Words.{demanded_by, is_met}
use Rattle.agreement.specs.Meaning.{demands_of, meaning}
use Rattle.agreement.specs.Agrees.{Carries}
use Rattle.agreement.specs.Opened.{accepts_of, is_met_of, meaning_of, numbered, opened, opened_by, premises_of}
use Rattle.agreement.proofs.Beside.{parts-alike}

-- the records that are there, and where two tables have the same records they are opened alike
pub numbered-at : {A : Type 0} (n : ℕ) (blank : A) (at : ℕ → A) (i : ℕ) → Numbered n i → numbered n blank at i ≡ at i
unfolding numbered pick
numbered-at n blank at i h = rw (range-within n i h)

pub numbered-same : {A : Type 0} (n : ℕ) (blank : A) (at at' : ℕ → A) → ((i : ℕ) → Numbered n i → at i ≡ at' i)
    → numbered n blank at ≡ numbered n blank at'
unfolding numbered pick
numbered-same n blank at at' same = fun_ext λ i. go i (within 1 n i) refl
  where
    go : (i : ℕ) (b : Bool) → within 1 n i ≡ b → pick b (at i) blank ≡ pick b (at' i) blank
    go i true e = same i (within-range n i e)
    go i false e = refl

module _ (t : List ℕ) (wf : WellFormed t) where
  pub open-credential : (c : ℕ) → Numbered (credentials t) c → (opened t).credential c ≡ credential t c
  open-credential c h = numbered-at (credentials t) _ (credential t) c h

  open-parts : (j : ℕ) → j ≤ cells t → parts_by (opened t).cell j ≡ parts_by (cell t) j
  open-parts j h =
      parts-alike (cell t) (opened t).cell (cells t) (numbered-at (cells t) _ (cell t)) (λ i there. (wf-cell t wf i there).next)
      j h

  open-asks : (g : Goal) (c : Credential) (m : ℕ) → (c.kind ≡ 4 → c.first ≤ cells t) → Dec (c.kind ≡ 4)
      → asks_by most_principals (parts_by (opened t).cell) g c m ≡ asks t g c m
  unfolding asks_by pick
  open-asks g c m within-cells (yes four) = rw (open-parts c.first (within-cells four))
  open-asks g c m within-cells (no other) = rw (ne_eqb c.kind 4 other)

  pub open-premises : (g : Goal) (c m : ℕ) → premises_of most_principals (opened t) g c m ≡ premises t g c m
  unfolding premises premises_by premises_of usable usable_by pick ◌and◌
  open-premises g c m = go (within 1 (credentials t) c) refl
    where
      ask : Goal → Credential → ℕ → Option (List Goal)
      ask = asks_by most_principals (parts_by (opened t).cell)

      go : (b : Bool) → within 1 (credentials t) c ≡ b
          → pick (b and same_role ((opened t).credential c).role g.role) (ask g ((opened t).credential c) m) none
          ≡ pick (b and same_role (credential t c).role g.role) (asks t g (credential t c) m) none
      go false e = refl
      go true e =
          let there = within-range (credentials t) c e in
          rw (
            open-credential c there,
            open-asks g (credential t c) m
                (λ four. ((wf-credential t wf c there).intersection four).last) (ℕ_discrete (credential t c).kind 4),
          )

  open-moved : (k : ℕ) (r : Role) (x n : ℕ) → n ≤ edges t → moved_by (opened t).edge k r x n ≡ moved_by (edge t) k r x n
  unfolding moved_by
  open-moved k r x zero h = refl
  open-moved k r x (suc n) h =
      rw (numbered-at (edges t) _ (edge t) (suc n) (omega arith), open-moved k r x n (omega arith))

  open-move : (k : ℕ) → (λ (r : Role) (x : ℕ). moved_by (opened t).edge k r x (edges t)) ≡ moved t k
  unfolding moved
  open-move k = fun_ext λ r. fun_ext λ x. open-moved k r x (edges t) (omega arith)

  module _ (k : ℕ) (there : Numbered (automata t) k) where
    open-accepts : (word : List Role) → accepts_of (opened t) k word ≡ accepts t k word
    unfolding accepts accepts_from starting accepts_of pick
    open-accepts word =
        rw (numbered-at (automata t) _ (automaton t) k there, range-within (automata t) k there, open-move k)

    pub open-met : (ws : List (List Role)) → is_met_of (opened t) k ws ≡ is_met t k ws
    open-met ws =
        ap₂ (λ mark test. demanded_by mark test ws) (ap (λ x. x.mark) (numbered-at (automata t) _ (automaton t) k there))
        (fun_ext open-accepts)

  open-demands : (c : ℕ) → Numbered (credentials t) c → (ws : List (List Role))
      → (meaning_of most_principals (opened t)).demands c ws ≡ (meaning t).demands c ws
  unfolding demands_of ◌or◌
  open-demands c h ws = rw (open-credential c h) (go (ℕ_discrete (credential t c).automaton 0))
    where
      go : Dec ((credential t c).automaton ≡ 0)
          → (eqb (credential t c).automaton 0 or is_met_of (opened t) (credential t c).automaton ws)
          ≡ (eqb (credential t c).automaton 0 or is_met t (credential t c).automaton ws)
      go (yes free) = rw free
      go (no some) =
          let range = (wf-credential t wf c h).automaton in
          rw (open-met (credential t c).automaton (omega arith) ws)

  -- so the law of agreement goes from the one meaning to the other, with every number as it is
  pub open-carries : Carries (meaning_of most_principals (opened t)) (meaning t) (λ c m. Numbered (credentials t) c) (λ c. c)
  open-carries =
      record {
        asks = λ g c m goals h applies. sym (open-premises g c m) ∙ applies;
        role = λ c m h. rw (open-credential c h);
        ends = λ c m h. rw (open-credential c h);
        demands = λ c m h ws. sym (open-demands c h ws);
      }

  pub carries-open : Carries (meaning t) (meaning_of most_principals (opened t)) (λ c m. Numbered (credentials t) c) (λ c. c)
  carries-open =
      record {
        asks = λ g c m goals h applies. open-premises g c m ∙ applies;
        role = λ c m h. rw (open-credential c h);
        ends = λ c m h. rw (open-credential c h);
        demands = λ c m h ws. open-demands c h ws;
      }

-- tables of any layouts that have the same records are equal once they are opened
pub opened-same : (n q a e : ℕ) (credential credential' : ℕ → Credential) (cell cell' : ℕ → Cell)
    (automaton automaton' : ℕ → Automaton) (edge edge' : ℕ → Edge)
    → ((i : ℕ) → Numbered n i → credential i ≡ credential' i) → ((j : ℕ) → Numbered q j → cell j ≡ cell' j)
    → ((k : ℕ) → Numbered a k → automaton k ≡ automaton' k) → ((x : ℕ) → Numbered e x → edge x ≡ edge' x)
    → opened_by n credential q cell a automaton e edge ≡ opened_by n credential' q cell' a automaton' e edge'
opened-same n q a e credential credential' cell cell' automaton automaton' edge edge' credentials cells automata edges =
    rw (
      numbered-same n (credential_of 0 0 0 0 0 0) credential credential' credentials,
      numbered-same q (record { role = role 0 0; next = 0 }) cell cell' cells,
      numbered-same a (automaton_of 0 0 0) automaton automaton' automata,
      numbered-same e (edge_of 0 0 0 0 0 0) edge edge' edges,
    )
