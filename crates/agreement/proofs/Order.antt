-- Which of two sets is the lesser number: the greatest member that only one of them has decides. So a renumbering of members that
-- keeps their order keeps the order of sets.
use mathlib.Core.Path.{◌≡◌, refl, sym, ap, ◌∙◌}
use mathlib.Core.Bool.{Bool, true, false}
use mathlib.Core.Logic.{◌⊎◌, inl, inr}
use Prim.Native.Nat.{ℕ, zero, suc, ◌-◌, ◌<◌, ◌≤◌, ◌/◌}
use native.Mathlib.Omega.{arith}
use native.Mathlib.Numerals.{sub-one}
use native.Mathlib.Decide.{dec_lt, ℕ_discrete}
use lib.Dec.{ltb}
use Rattle.sets.specs.Logic.{◌and◌}
use Rattle.sets.specs.Sets.{in_set}
use Rattle.sets.proofs.Tests.{false-true, refuted}
use Rattle.sets.proofs.Members.{even, member-next, odd, same-members, set_of-members}
use Rattle.agreement.specs.Agrees.{Among, KeepsOrder, Renumbers, renumbered}
use Rattle.agreement.proofs.Renumbering.{counterpart, counterpart-back}

-- x lacks member i, y has it, and above i they have the same
pub record Decides (x y i : ℕ) : Type 0 where
  pub lacks : in_set x i ≡ false
  pub has : in_set y i ≡ true
  pub above : (j : ℕ) → i < j → in_set x j ≡ in_set y j

decides-next : (x y i : ℕ) → Decides x y (suc i) → Decides (x / 2) (y / 2) i
decides-next x y i d =
    record {
      lacks = sym (member-next x i) ∙ d.lacks;
      has = sym (member-next y i) ∙ d.has;
      above = λ j l. sym (member-next x j) ∙ d.above (suc j) (omega arith) ∙ member-next y j;
    }

pub decides-less : (x y i : ℕ) → Decides x y i → x < y
decides-less x y zero d =
    let rest : x / 2 ≡ y / 2 = same-members (x / 2) (y / 2)
    (λ s. sym (member-next x s) ∙ d.above (suc s) (omega arith) ∙ member-next y s) in
    omega (arith, even x d.lacks, odd y d.has, rest)
decides-less x y (suc i) d =
    let less = decides-less (x / 2) (y / 2) i (decides-next x y i d) in
    omega arith

-- above k nothing decides, or something does
abbrev Alike : (x y k : ℕ) → Type 0
Alike x y k = (j : ℕ) → k ≤ j → in_set x j ≡ in_set y j

abbrev Apart : (x y : ℕ) → Type 0
Apart x y = (i : ℕ) × (Decides x y i ⊎ Decides y x i)

at-or-above : (x y k j : ℕ) → Alike x y (suc k) → in_set x k ≡ in_set y k → k ≤ j → in_set x j ≡ in_set y j
at-or-above x y k j above here l = go (ℕ_discrete k j)
  where
    go : Dec (k ≡ j) → in_set x j ≡ in_set y j
    go (yes e) = rw e at here
    go (no n) = above j (omega arith)

apart_from : (x y k : ℕ) → Alike x y k → ((s : ℕ) → in_set x s ≡ in_set y s) ⊎ Apart x y
apart_from x y zero above = inl (λ s. above s (omega arith))
apart_from x y (suc k) above = go (in_set x k) (in_set y k) refl refl (apart_from x y k)
  where
    go : (a b : Bool) → in_set x k ≡ a → in_set y k ≡ b → (Alike x y k → ((s : ℕ) → in_set x s ≡ in_set y s) ⊎ Apart x y)
        → ((s : ℕ) → in_set x s ≡ in_set y s) ⊎ Apart x y
    go true true e e' lower = lower (λ j l. at-or-above x y k j above (e ∙ sym e') l)
    go false false e e' lower = lower (λ j l. at-or-above x y k j above (e ∙ sym e') l)
    go false true e e' lower = inr (k, inl record { lacks = e; has = e'; above = λ j l. above j (omega arith) })
    go true false e e' lower = inr (k, inr record { lacks = e'; has = e; above = λ j l. sym (above j (omega arith)) })

pub less-decides : (x y k : ℕ) → Alike x y k → x < y → (i : ℕ) × Decides x y i
less-decides x y k above less = go (apart_from x y k above)
  where
    go : ((s : ℕ) → in_set x s ≡ in_set y s) ⊎ Apart x y → (i : ℕ) × Decides x y i
    go (inl same) = absurd (let e = same-members x y same in omega arith)
    go (inr (i, inl d)) = (i, d)
    go (inr (i, inr d)) = absurd (let more = decides-less y x i d in omega arith)

module _ (n n' : ℕ) (mine theirs : ℕ → Bool) (to from : ℕ → ℕ) (r : Renumbers n n' mine theirs to from)
    (order : KeepsOrder mine to) where
  abbrev on : ℕ → ℕ
  on S = renumbered theirs from n' S

  -- a counterpart with a greater number is one of a credential with a greater number
  order-back : (c d : ℕ) → mine c ≡ true → mine d ≡ true → to c < to d → c < d
  order-back c d own own' less = go (dec_lt c d) (ℕ_discrete c d)
    where
      go : Dec (c < d) → Dec (c ≡ d) → c < d
      go (yes l) e = l
      go (no n) (yes e) = absurd (let same = ap to e in omega arith)
      go (no n) (no e) = absurd (let more = order d c own' own (omega arith) in omega arith)

  same_above : (S T c : ℕ) → mine c ≡ true → ((j : ℕ) → c - 1 < j → in_set S j ≡ in_set T j)
      → (j : ℕ) → to c - 1 < j → in_set (on S) j ≡ in_set (on T) j
  unfolding renumbered ◌and◌
  same_above S T c own above j l = rw (set_of-members _ n' j, set_of-members _ n' j) (go (theirs (suc j)) refl)
    where
      go : (b : Bool) → theirs (suc j) ≡ b
          → (ltb j n' and (theirs (suc j) and in_set S (from (suc j) - 1)))
          ≡ (ltb j n' and (theirs (suc j) and in_set T (from (suc j) - 1)))
      go false e = rw e
      go true e =
          let own' = r.backward.there (suc j) e in
          let there = r.backward.back (suc j) e in
          let later = order-back c (from (suc j)) own own' (omega arith) in
          let first = (r.onward.numbered c own).first in
          rw (above (from (suc j) - 1) (omega arith))

  pub less-on : (S T : ℕ) → Among mine S → Among mine T → S < T → on S < on T
  less-on S T own own' less =
      let (i, d) = less-decides S T (suc n) beyond less in
      let mine-i = own' i d.has in
      let at = sub-one (suc i) in
      let back = counterpart-back n n' mine theirs to from r S (suc i) mine-i in
      decides-less (on S) (on T) (to (suc i) - 1) record {
        lacks = refuted _ (λ h. false-true (sym d.lacks ∙ rw at at (back h)));
        has = counterpart n n' mine theirs to from r T (suc i) mine-i (rw at d.has);
        above = same_above S T (suc i) mine-i (λ j l. d.above j (omega arith));
      }
    where
      -- no set has a member that is none of n
      outside : (X j : ℕ) → Among mine X → suc n ≤ j → in_set X j ≡ false
      outside X j among l = refuted _ (λ h. let last = (r.onward.numbered (suc j) (among j h)).last in omega arith)

      beyond : (j : ℕ) → suc n ≤ j → in_set S j ≡ in_set T j
      beyond j l = outside S j own l ∙ sym (outside T j own' l)
