-- The places of roles as the code gathers them: a set of places with those that a credential asks, and rounds over the credentials,
-- of which the first i have been looked at.
use mathlib.Core.Path.{◌≡◌, sym, ap, ◌∙◌}
use mathlib.Core.List.{List}
use mathlib.Core.Bool.{Bool, true, false, not}
use Prim.Native.Nat.{ℕ, suc, ◌+◌, ◌-◌, ◌^◌, ◌<◌, ◌≤◌}
use native.Mathlib.Omega.{arith}
use native.Mathlib.Decide.{ℕ_discrete}
use native.Mathlib.Numerals.{add-one}
use lib.Bits.{bit_or}
use lib.ListN.{get_or}
use borrow.Author.Tests.{not-false}
use Rattle.sets.specs.Logic.{◌and◌}
use Rattle.sets.specs.Sets.{in_set, part}
use Rattle.sets.proofs.Tests.{and-on, false-true}
use Rattle.sets.proofs.Members.{in_set-zero, own-bit, part-le, part-member, part-or-left, part-or-right}
use Rattle.sets.proofs.Members.{part-refl, part-trans, part-zero, set_more}
use Rattle.table.specs.Layout.{credential, credentials}
use Rattle.table.specs.declared.Credential.{Credential}
use Rattle.members.specs.Places.{is_person}
use Rattle.members.specs.Members.{asked_cell, link_cell, role_cell}
use Rattle.relevance.specs.Relevance.{AsksIn, Round, WithAsked, WithLinks, WithRoles, defined_at}

-- one more below n + 1
below_next : (At : ℕ → Type 0) (i : ℕ) → ((k : ℕ) → k < i → At k) → At i → (k : ℕ) → k < i + 1 → At k
below_next At i before here k h = go (ℕ_discrete k i)
  where
    go : Dec (k ≡ i) → At k
    go (yes same) = rw same here
    go (no other) = before k (omega arith)

-- a set y that has become z with one place more, and was x before
module _ (y z place : ℕ) (more : z ≡ bit_or y (2 ^ place)) where
  pub with-has : {cell : ℕ} → place ≡ cell → in_set z cell ≡ true
  with-has e = rw (← e, more) (part-member (2 ^ place) _ place (part-or-right y (2 ^ place)) (own-bit place))

  with-kept : part y z ≡ true
  with-kept = rw more (part-or-left y (2 ^ place))

  pub asked-more : (index : List ℕ) (i k x : ℕ) → place ≡ get_or index (asked_cell i k) 0 → WithAsked index i k x y
      → WithAsked index i (k + 1) x z
  asked-more index i k x e before =
      record {
        grows = part-trans x y z before.grows with-kept;
        each = below_next (λ k. in_set z (get_or index (asked_cell i k) 0) ≡ true) k
            (λ k l. part-member y z _ with-kept (before.each k l)) (with-has e);
      }

  pub linked-more : (t index : List ℕ) (i j x : ℕ) → place ≡ get_or index (link_cell i j) 0 → WithLinks t index i j x y
      → WithLinks t index i (j + 1) x z
  linked-more t index i j x e before =
      record {
        grows = part-trans x y z before.grows with-kept;
        each = below_next (λ j. is_person t j ≡ true → in_set z (get_or index (link_cell i j) 0) ≡ true) j
            (λ j l person. part-member y z _ with-kept (before.each j l person)) (λ person. with-has e);
      }

pub asked-none : (index : List ℕ) (i x : ℕ) → WithAsked index i 0 x x
asked-none index i x = record { grows = part-refl x; each = λ k l. absurd (omega arith) }

pub linked-none : (t index : List ℕ) (i x : ℕ) → WithLinks t index i 0 x x
linked-none t index i x = record { grows = part-refl x; each = λ j l. absurd (omega arith) }

pub linked-not : (t index : List ℕ) (i j x y z : ℕ) → z ≡ y → is_person t j ≡ false → WithLinks t index i j x y
    → WithLinks t index i (j + 1) x z
linked-not t index i j x y z same nobody before =
    rw same
    record {
      grows = before.grows;
      each = below_next (λ j. is_person t j ≡ true → in_set y (get_or index (link_cell i j) 0) ≡ true) j before.each
          (λ person. absurd (false-true (sym nobody ∙ person)));
    }

-- all that credential i + 1 asks, which has been read as c, by its kind
module _ (t index : List ℕ) (i : ℕ) (c : Credential) (read : c ≡ credential t (i + 1)) where
  kind-is : c.kind ≡ (credential t (suc i)).kind
  kind-is = ap (λ (y : Credential). y.kind) (read ∙ ap (credential t) (add-one i))

  pub roles-none : (x : ℕ) → c.kind ≡ 1 → WithRoles t index i x x
  roles-none x one =
      record {
        grows = part-refl x;
        asks = record {
          asked = λ other. absurd (other (sym kind-is ∙ one));
          linked = λ three. absurd (omega (arith, kind-is));
        };
      }

pub roles-linked : (t index : List ℕ) (i x y z : ℕ) → WithAsked index i 4 x y → WithLinks t index i (credentials t) y z
    → WithRoles t index i x z
roles-linked t index i x y z asked linked =
    record {
      grows = part-trans x y z asked.grows linked.grows;
      asks = record {
        asked = λ h k l. part-member y z _ linked.grows (asked.each k l);
        linked = λ h. linked.each;
      };
    }

-- what is asked in a set is asked in a greater one
asks-more : (t index : List ℕ) (i y z : ℕ) → part y z ≡ true → AsksIn t index i y → AsksIn t index i z
asks-more t index i y z more asks =
    record {
      asked = λ other k l. part-member y z _ more (asks.asked other k l);
      linked = λ three j l person. part-member y z _ more (asks.linked three j l person);
    }

-- a round begins with nothing looked at; from x, which has become y, it goes on over credential i + 1 to z
pub round-starts : (t index : List ℕ) (x : ℕ) → Round t index 0 x x
round-starts t index x = record { grows = part-refl x; each = λ i l. absurd (omega arith) }

module _ (t index : List ℕ) (i x y z : ℕ) (round : Round t index i x y) where
  round-next : part y z ≡ true → (in_set x (get_or index (role_cell i) 0) ≡ true → AsksIn t index i z) → Round t index (i + 1) x z
  round-next kept here =
      record {
        grows = part-trans x y z round.grows kept;
        each = below_next (λ i. in_set x (get_or index (role_cell i) 0) ≡ true → AsksIn t index i z) i
            (λ i l inside. asks-more t index i y z kept (round.each i l inside)) here;
      }

  pub round_with : {more : ℕ} → z ≡ more → WithRoles t index i y more → Round t index (i + 1) x z
  round_with same roles = round-next (rw same roles.grows) (λ inside. rw same roles.asks)

  -- the credential's role is not new: it does not stand at a place of x, or what it asks is there since the round before
  pub round-old : z ≡ y → (before : ℕ) → i < credentials t → Round t index (credentials t) before x → {place : ℕ}
      → place ≡ get_or index (role_cell i) 0 → {new : Bool} → new ≡ (in_set y place and not (in_set before place)) → new ≡ false
      → Round t index (i + 1) x z
  round-old same before there closed at told old =
      round-next (rw same (part-refl y))
      (λ inside.
      let reached = part-member x y _ round.grows inside in
      let known = not-false (in_set before (get_or index (role_cell i) 0)) (and-on reached ∙ sym (rw at at told) ∙ old) in
      rw same (asks-more t index i x y round.grows (closed.each i there known)))

-- rounds begin with nothing before, and come nearer to the greatest set
pub round-first : (t index : List ℕ) (x : ℕ) → Round t index (credentials t) 0 x
round-first t index x =
    record { grows = part-zero x; each = λ i l inside. absurd (false-true (sym (in_set-zero _) ∙ inside)) }

pub round-less : (t index : List ℕ) (n most x y : ℕ) → Round t index n x y → (y ≡ x → ⊥) → y ≤ most → most - y < most - x
round-less t index n most x y round other top = let up = part-le x y round.grows in omega arith

-- the credentials at the places, with one looked at more
module _ (index : List ℕ) (places found i : ℕ) (so_far : found ≡ defined_at index places i) where
  pub defined_more : in_set places (get_or index (role_cell i) 0) ≡ true → bit_or found (2 ^ i) ≡ defined_at index places (i + 1)
  unfolding defined_at
  defined_more has = set_more _ found i so_far has
