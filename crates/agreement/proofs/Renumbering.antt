-- Sets of credentials, renumbered: there and back, parts and used sets; so the least used sets are those of the counterparts.
use mathlib.Core.Path.{◌≡◌, sym, ap, ◌∙◌}
use mathlib.Core.Bool.{Bool, true}
use Prim.Native.Nat.{ℕ, suc, ◌-◌, ◌≤◌}
use native.Mathlib.Omega.{arith}
use native.Mathlib.Numerals.{sub-one}
use borrow.Author.Tests.{lt-ltb}
use Rattle.sets.specs.Logic.{◌or◌}
use Rattle.sets.specs.Sets.{in_set, part}
use Rattle.sets.proofs.Tests.{and_both, and_first, and_second, refuted, same_test}
use Rattle.sets.proofs.Members.{in_set-zero, part-member, part-shown, same-members, set_of-members}
use Rattle.derivation.specs.Forest.{Forest, names, used_set}
use Rattle.derivation.proofs.Using.{used-member}
use Rattle.agreement.specs.Agrees.{Among, MinimalOf, Renumbers, renamed, renumbered}
use Rattle.agreement.proofs.Carrying.{named-on}

-- a forest that names no 0 has in its used set those that it names
pub used-is : (f : Forest) → ((c : ℕ) → names f c ≡ true → 1 ≤ c) → (i : ℕ) → in_set (used_set f) i ≡ names f (suc i)
unfolding used_set ◌or◌
used-is f all i =
    used-member f (refuted (names f 0) (λ h. let l = all 0 h in omega arith)) 0 i ∙ rw (in_set-zero i)

next : (c : ℕ) → 1 ≤ c → suc (c - 1) ≡ c
next c l = omega arith

-- a set and its counterpart, by their members
module _ (n n' : ℕ) (mine theirs : ℕ → Bool) (to from : ℕ → ℕ) (r : Renumbers n n' mine theirs to from) where
  abbrev on : ℕ → ℕ
  on S = renumbered theirs from n' S

  pub on-shows : (S i : ℕ) → in_set (on S) i ≡ true → (theirs (suc i) ≡ true) × (in_set S (from (suc i) - 1) ≡ true)
  unfolding renumbered
  on-shows S i h =
      let both = and_second _ _ (sym (set_of-members _ n' i) ∙ h) in
      (and_first _ _ both, and_second _ _ both)

  pub on-reached : (S i : ℕ) → theirs (suc i) ≡ true → in_set S (from (suc i) - 1) ≡ true → in_set (on S) i ≡ true
  unfolding renumbered
  on-reached S i own member =
      let there = r.backward.numbered (suc i) own in
      set_of-members _ n' i ∙ and_both (lt-ltb i n' (omega arith)) (and_both own member)

  pub on-among : (S : ℕ) → Among theirs (on S)
  on-among S i h = (on-shows S i h).0

  pub on-part : (T S : ℕ) → part T S ≡ true → part (on T) (on S) ≡ true
  on-part T S within =
      part-shown (on T) (on S)
      (λ i h. let (own, member) = on-shows T i h in on-reached S i own (part-member T S _ within member))

-- there and back again
module _ (n n' : ℕ) (mine theirs : ℕ → Bool) (to from : ℕ → ℕ) (r : Renumbers n n' mine theirs to from) where
  abbrev turned : Renumbers n' n theirs mine from to
  turned = record { onward = r.backward; backward = r.onward }

  abbrev there : ℕ → ℕ
  there S = renumbered theirs from n' S

  abbrev home : ℕ → ℕ
  home S = renumbered mine to n S

  -- a credential's counterpart is in the renumbered set exactly if it is in the set
  pub counterpart : (S c : ℕ) → mine c ≡ true → in_set S (c - 1) ≡ true → in_set (there S) (to c - 1) ≡ true
  counterpart S c own member =
      let theirs-too = r.onward.there c own in
      let same = next (to c) (r.backward.numbered (to c) theirs-too).first in
      on-reached n n' mine theirs to from r S (to c - 1) (rw same theirs-too) (rw (same, r.onward.back c own) member)

  pub counterpart-back : (S c : ℕ) → mine c ≡ true → in_set (there S) (to c - 1) ≡ true → in_set S (c - 1) ≡ true
  counterpart-back S c own member =
      let theirs-too = r.onward.there c own in
      let same = next (to c) (r.backward.numbered (to c) theirs-too).first in
      rw (same, r.onward.back c own) at (on-shows n n' mine theirs to from r S (to c - 1) member).1

  pub home-again : (S : ℕ) → Among mine S → home (there S) ≡ S
  home-again S among = same-members (home (there S)) S (λ i. same_test _ _ (out i) (in-again i))
    where
      out : (i : ℕ) → in_set (home (there S)) i ≡ true → in_set S i ≡ true
      out i h =
          let (own, member) = on-shows n' n theirs mine from to turned (there S) i h in
          rw (sub-one (suc i)) at (counterpart-back S (suc i) own member)

      in-again : (i : ℕ) → in_set S i ≡ true → in_set (home (there S)) i ≡ true
      in-again i h =
          let own = among i h in
          on-reached n' n theirs mine from to turned (there S) i own (counterpart S (suc i) own (rw (sub-one (suc i)) h))

  -- the used set of a renumbered forest is the used set, renumbered
  pub used-renamed : (f : Forest) → ((c : ℕ) → names f c ≡ true → mine c ≡ true)
      → ((c' : ℕ) → names (renamed to f) c' ≡ true → (c : ℕ) × (names f c ≡ true) × (to c ≡ c'))
      → used_set (renamed to f) ≡ there (used_set f)
  used-renamed f all named_back = same-members _ _ (λ i. same_test _ _ (out i) (in-again i))
    where
      before : (i : ℕ) → in_set (used_set f) i ≡ names f (suc i)
      before = used-is f (λ c h. (r.onward.numbered c (all c h)).first)

      positive : (c' : ℕ) → names (renamed to f) c' ≡ true → 1 ≤ c'
      positive c' h =
          let (c, named, same) = named_back c' h in
          let fits = (r.backward.numbered (to c) (r.onward.there c (all c named))).first in
          omega arith

      after : (i : ℕ) → in_set (used_set (renamed to f)) i ≡ names (renamed to f) (suc i)
      after = used-is (renamed to f) positive

      out : (i : ℕ) → in_set (used_set (renamed to f)) i ≡ true → in_set (there (used_set f)) i ≡ true
      out i h =
          let (c, named, same) = named_back (suc i) (sym (after i) ∙ h) in
          let own = all c named in
          let at = next c (r.onward.numbered c own).first in
          rw (same, sub-one (suc i)) at (counterpart (used_set f) c own (before (c - 1) ∙ rw at named))

      in-again : (i : ℕ) → in_set (there (used_set f)) i ≡ true → in_set (used_set (renamed to f)) i ≡ true
      in-again i h =
          let (own, member) = on-shows n n' mine theirs to from r (used_set f) i h in
          let at = next (from (suc i)) (r.onward.numbered _ (r.backward.there (suc i) own)).first in
          let named : names f (from (suc i)) ≡ true = rw at at (sym (before (from (suc i) - 1)) ∙ member) in
          after i ∙ rw (r.backward.back (suc i) own) at (named-on to f (from (suc i)) named)

-- where used sets are carried both ways, so are the least of them
module _ (n n' : ℕ) (mine theirs : ℕ → Bool) (to from : ℕ → ℕ) (r : Renumbers n n' mine theirs to from)
    (Used Used' : ℕ → Type 0)
    (carried : (S : ℕ) → Among mine S → Used S → Used' (renumbered theirs from n' S))
    (carried-back : (S : ℕ) → Among theirs S → Used' S → Used (renumbered mine to n S)) where
  pub minimal-carried : (S : ℕ) → Among mine S → MinimalOf Used S → MinimalOf Used' (renumbered theirs from n' S)
  minimal-carried S among m = record { used = carried S among m.used; least = least }
    where
      back : Renumbers n' n theirs mine from to
      back = record { onward = r.backward; backward = r.onward }

      least : (T : ℕ) → Used' T → part T (renumbered theirs from n' S) ≡ true → T ≡ renumbered theirs from n' S
      least T used within =
          let own : Among theirs T = λ i h. on-among n n' mine theirs to from r S i (part-member T _ i within h) in
          let inside = on-part n' n theirs mine from to back T (renumbered theirs from n' S) within in
          let less = rw (home-again n n' mine theirs to from r S among) at inside in
          let same = m.least (renumbered mine to n T) (carried-back T own used) less in
          sym (home-again n' n theirs mine from to back T own) ∙ ap (λ X. renumbered theirs from n' X) same
