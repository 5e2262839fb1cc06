-- Where every accepted record uses none but such credentials, the lists of tables that are alike have each other's sets.
use mathlib.Core.Path.{◌≡◌, refl, ap, ◌∙◌}
use mathlib.Core.List.{List, [], ◌∷◌, map}
use mathlib.Core.Bool.{Bool, true}
use Prim.Native.Nat.{ℕ, zero, suc, ◌^◌, ◌<◌}
use native.Mathlib.Omega.{arith}
use lib.ListN.{get_or, length, length-map}
use borrow.Author.Tests.{eqb-true, eq-eqb}
use Rattle.sets.proofs.Tests.{false-true, or-either, or-first, or-second}
use Rattle.sorted.proofs.Ascending.{Ascending, Stands, one_list, those-numbers}
use Rattle.table.specs.Layout.{credentials}
use Rattle.table.specs.Holding.{WellFormed}
use Rattle.table.specs.declared.Query.{Query}
use Rattle.table.proofs.WellFormed.{well-formed}
use Rattle.agreement.specs.Agrees.{Among, KeepsOrder}
use Rattle.agreement.proofs.Renumbering.{home-again}
use Rattle.agreement.proofs.Order.{less-on}
use Rattle.agreement.proofs.Recording.{alike-back}
use Rattle.listing.specs.Demands.{Minimal}
use Rattle.listing.specs.Minimal.{minimal_sets}
use Rattle.listing.proofs.Minimals.{minimal-sets, used-fits}
use Rattle.renumbering.specs.Lists.{sorted_below, stands}
use Rattle.renumbering.specs.Promised.{Both, ListsAlike, ListsInOrder, UsesAmong, counterparts}
use Rattle.renumbering.proofs.Alike.{minimal-alike}

-- a list and its image
module _ (on : ℕ → ℕ) where
  image-at : (xs : List ℕ) (i : ℕ) → i < length xs → get_or (map on xs) i 0 ≡ on (get_or xs i 0)
  image-at [] i l = absurd (omega arith)
  image-at (x ∷ more) zero l = refl
  image-at (x ∷ more) (suc i) l = image-at more i (omega arith)

  stands-in : (xs : List ℕ) (i : ℕ) → i < length xs → stands (map on xs) (on (get_or xs i 0)) ≡ true
  unfolding stands
  stands-in [] i l = absurd (omega arith)
  stands-in (x ∷ more) zero l = or-first _ (eq-eqb (on x) (on x) refl)
  stands-in (x ∷ more) (suc i) l = or-second _ (stands-in more i (omega arith))

  stands-shows : (xs : List ℕ) (y : ℕ) → stands (map on xs) y ≡ true → (i : ℕ) × (i < length xs) × (on (get_or xs i 0) ≡ y)
  unfolding stands
  stands-shows [] y h = absurd (false-true h)
  stands-shows (x ∷ more) y h =
      or-either (λ e. (0, omega arith, eqb-true (on x) y e))
      (λ later. let (i, there, e) = stands-shows more y later in (suc i, omega arith, e)) h

module _ (t t' : List ℕ) (q : Query) (mine theirs : ℕ → Bool) (to from : ℕ → ℕ) (b : Both t t' q mine theirs to from)
    (all : UsesAmong t q mine) (all' : UsesAmong t' q theirs) where
  wf : WellFormed t
  wf = well-formed t b.table

  wf' : WellFormed t'
  wf' = well-formed t' b.table'

  abbrev on : ℕ → ℕ
  on S = counterparts t' theirs from S

  -- a minimal set there is the counterpart of one that is listed here
  comes-from : (S : ℕ) → Minimal t' q S → (i : ℕ) × (i < length (minimal_sets t q)) × (on (get_or (minimal_sets t q) i 0) ≡ S)
  comes-from S m =
      let among = all' S m.used in
      let turned : Both t' t q theirs mine from to = record {
        table = b.table';
        table' = b.table;
        valid = b.valid;
        alike = alike-back t t' mine theirs to from b.alike;
      } in
      let back = minimal-alike t' t q theirs mine from to turned S among m in
      let (i, there, e) = (minimal-sets t wf q b.valid).every _ back in
      let again = home-again (credentials t') (credentials t) theirs mine from to turned.alike.renumbers S among in
      (i, there, ap on e ∙ again)

  -- and the counterpart of a set that is listed here is listed there
  leads-to : (i : ℕ) → i < length (minimal_sets t q) → Stands (on (get_or (minimal_sets t q) i 0)) (minimal_sets t' q)
  leads-to i l =
      let m = (minimal-sets t wf q b.valid).only i l in
      (minimal-sets t' wf' q b.valid).every _ (minimal-alike t t' q mine theirs to from b _ (all _ m.used) m)

  pub afresh : minimal_sets t' q ≡ sorted_below (2 ^ credentials t') (map on (minimal_sets t q))
  unfolding sorted_below
  afresh =
      one_list (minimal_sets t' q) _ (minimal-sets t' wf' q b.valid).ascending (those-numbers _ _).ascending
      (λ i l.
      let m = (minimal-sets t' wf' q b.valid).only i l in
      let (j, there, e) = comes-from _ m in
      (those-numbers _ _).every _ (used-fits t' wf' q b.valid _ m.used) (rw e at (stands-in on (minimal_sets t q) j there)))
      (λ i l.
      let (j, there, e) = stands-shows on (minimal_sets t q) _ ((those-numbers _ _).only i l) in
      rw e at (leads-to j there))

  module _ (order : KeepsOrder mine to) where
    abbrev image : List ℕ
    image = map on (minimal_sets t q)

    long : length image ≡ length (minimal_sets t q)
    long = length-map (minimal_sets t q) on

    image-ascends : Ascending image
    image-ascends i j less l =
        let l' : j < length (minimal_sets t q) = rw long at l in
        let among : (k : ℕ) → k < length (minimal_sets t q) → Among mine (get_or (minimal_sets t q) k 0) =
        λ k there. all _ ((minimal-sets t wf q b.valid).only k there).used in
        rw (image-at on (minimal_sets t q) i (omega arith), image-at on (minimal_sets t q) j l')
        (less-on (credentials t) (credentials t') mine theirs to from b.alike.renumbers order _ _ (among i (omega arith))
        (among j l') ((minimal-sets t wf q b.valid).ascending i j less l'))

    pub in_order : minimal_sets t' q ≡ image
    in_order =
        one_list (minimal_sets t' q) image (minimal-sets t' wf' q b.valid).ascending image-ascends
        (λ i l.
        let (j, there, e) = comes-from _ ((minimal-sets t' wf' q b.valid).only i l) in
        (j, rw long there, image-at on (minimal_sets t q) j there ∙ e))
        (λ i l.
        let there : i < length (minimal_sets t q) = rw long at l in
        rw (image-at on (minimal_sets t q) i there) (leads-to i there))

pub lists-alike : ListsAlike
lists-alike t t' q mine theirs to from b all all' = afresh t t' q mine theirs to from b all all'

pub lists-in-order : ListsInOrder
lists-in-order t t' q mine theirs to from b all all' order = in_order t t' q mine theirs to from b all all' order
