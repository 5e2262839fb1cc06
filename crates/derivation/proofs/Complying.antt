-- A record complies exactly when every automaton of the table is met: not used, or the words are what it demands. By its mark an
-- automaton demands some word of the record, or every one.
use mathlib.Core.Path.{◌≡◌, refl, sym, ◌∙◌}
use mathlib.Core.List.{List, [], ◌∷◌}
use mathlib.Core.Bool.{Bool, true, false, not}
use Prim.Native.Nat.{ℕ, zero, suc, ◌<◌}
use native.Mathlib.Omega.{arith}
use lib.ListN.{get_or, length}
use Rattle.sets.specs.Logic.{◌or◌, pick}
use Rattle.sets.proofs.Tests.{and_both, and_first, and_second, false-true, or-either, or-first, or-second, refuted}
use Rattle.table.specs.Layout.{Numbered, automata, credential}
use Rattle.table.specs.Holding.{WellFormed}
use Rattle.table.specs.declared.Goal.{Goal}
use Rattle.table.specs.declared.Role.{Role}
use Rattle.table.proofs.WellFormed.{wf-credential, well-formed}
use Rattle.automata.specs.Automata.{accepts}
use Rattle.derivation.specs.Forest.{Derives, Forest}
use Rattle.derivation.specs.Words.{Complies, accepts_all, accepts_some, demanded_by, every_word, is_met, met, some_word}
use Rattle.derivation.specs.Words.{uses_automaton, words}
use Rattle.derivation.specs.Promised.{CompliesWhere, MetByEvery, MetBySome, MetUnused, UsedAutomaton}
use Rattle.derivation.proofs.Using.{named-numbered, uses-reached, uses-shows}

module _ {t : List ℕ} {l : ℕ} {b gs : List Goal} {f : Forest} (wf : WellFormed t) (d : Derives t l b gs f) where
  pub met-complies : ((k : ℕ) → Numbered (automata t) k → met t f k ≡ true) → Complies t f
  unfolding met ◌or◌
  met-complies all c named constrained =
      let own = (wf-credential t wf c (named-numbered t d c named)).automaton in
      let used = uses-reached t (credential t c).automaton f c named refl in
      rw used at (all (credential t c).automaton (record { first = omega arith; last = own }))

  pub complies-met : Complies t f → (k : ℕ) → Numbered (automata t) k → met t f k ≡ true
  unfolding met ◌or◌
  complies-met complies k there = go (uses_automaton t f k) refl
    where
      go : (x : Bool) → uses_automaton t f k ≡ x → (not x or is_met t k (words t [] f)) ≡ true
      go false off = refl
      go true on =
          let by = uses-shows t k f on in
          rw by.2 at (complies by.0 by.1 (omega (arith, by.2, there.first)))

-- some word of a list is accepted, and every one is
module _ (t : List ℕ) (k : ℕ) where
  some-shows : (ws : List (List Role)) → accepts_some t k ws ≡ true → (i : ℕ) × (i < length ws) × (accepts t k (get_or ws i []) ≡ true)
  unfolding some_word
  some-shows [] on = absurd (false-true on)
  some-shows (word ∷ more) on =
      or-either (λ here. (0, omega arith, here))
      (λ later. let (i, l, there) = some-shows more later in (suc i, omega arith, there)) on

  some-reached : (ws : List (List Role)) (i : ℕ) → i < length ws → accepts t k (get_or ws i []) ≡ true → accepts_some t k ws ≡ true
  unfolding some_word
  some-reached [] i l on = absurd (omega arith)
  some-reached (word ∷ more) zero l on = or-first _ on
  some-reached (word ∷ more) (suc i) l on = or-second _ (some-reached more i (omega arith) on)

  every-shows : (ws : List (List Role)) → accepts_all t k ws ≡ true → (i : ℕ) → i < length ws → accepts t k (get_or ws i []) ≡ true
  unfolding every_word
  every-shows [] all i l = absurd (omega arith)
  every-shows (word ∷ more) all zero l = and_first _ _ all
  every-shows (word ∷ more) all (suc i) l = every-shows more (and_second _ _ all) i (omega arith)

  every-reached : (ws : List (List Role)) → ((i : ℕ) → i < length ws → accepts t k (get_or ws i []) ≡ true) → accepts_all t k ws ≡ true
  unfolding every_word
  every-reached [] all = refl
  every-reached (word ∷ more) all = and_both (all 0 (omega arith)) (every-reached more (λ i l. all (suc i) (omega arith)))

-- a used automaton is met where the words are what its mark demands
used-met : (t : List ℕ) (f : Forest) (k : ℕ) → UsedAutomaton t f k → met t f k ≡ is_met t k (words t [] f)
unfolding met ◌or◌
used-met t f k (c, named, own) = rw (uses-reached t k f c named own)

pub met-by-some : MetBySome
unfolding demanded_by pick
met-by-some t f k used one =
    rw (used-met t f k used, one) (some-shows t k (words t [] f), λ (i, l, on). some-reached t k (words t [] f) i l on)

pub met-by-every : MetByEvery
unfolding demanded_by pick
met-by-every t f k used none = rw (used-met t f k used, none) (every-shows t k (words t [] f), every-reached t k (words t [] f))

pub met-unused : MetUnused
unfolding met ◌or◌
met-unused t f k unused = rw (refuted (uses_automaton t f k) (λ on. unused (uses-shows t k f on)))

pub complies-where : CompliesWhere
complies-where t levels branch goals f table d =
    let wf = well-formed t table in (
      (λ complies k there used. complies-met wf d complies k there),
      (λ all. met-complies wf d (λ k there. every all k there (uses_automaton t f k) refl)),
    )
  where
    every : ((k : ℕ) → Numbered (automata t) k → UsedAutomaton t f k → met t f k ≡ true) → (k : ℕ) → Numbered (automata t) k
        → (x : Bool) → uses_automaton t f k ≡ x → met t f k ≡ true
    every all k there true on = all k there (uses-shows t k f on)
    every all k there false off = met-unused t f k (λ (c, named, own). false-true (sym off ∙ uses-reached t k f c named own))
