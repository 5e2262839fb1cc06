-- A branch as the code holds it, the query's goal first: whether a goal is among those above, looked up one by one.
use mathlib.Core.Path.{◌≡◌, refl, sym, ◌∙◌}
use mathlib.Core.List.{List, [], ◌∷◌, ◌++◌}
use mathlib.Core.Bool.{Bool, true, false, not}
use Prim.Native.Nat.{ℕ, ◌+◌, ◌<◌}
use Rattle.std.proofs.Common.{reverse, get_or, length, take}
use Rattle.std.specs.List.{list_all}
use Rattle.std.proofs.lemmas.List.{reverse-append, take_more}
use Rattle.std.proofs.lemmas.List.Folds.{list_all_at}
use Rattle.sets.specs.Logic.{◌and◌}
use Rattle.table.specs.declared.Goal.{Goal}
use Rattle.derivation.specs.Rules.{fresh, same_goal}

abbrev other-than : Goal → Goal → Bool
other-than g h = not (same_goal h g)

swapped : (a b c : Bool) → (a and (b and c)) ≡ (b and (a and c))
unfolding ◌and◌
swapped true true c = refl
swapped true false c = refl
swapped false true c = refl
swapped false false c = refl

last-in : (g : Goal) (others : List Goal) (h : Goal) → fresh (others ++ h ∷ []) g ≡ (not (same_goal h g) and fresh others g)
unfolding fresh ◌and◌
last-in g [] h = refl
last-in g (o ∷ others) h = rw (last-in g others h) (swapped (not (same_goal o g)) (not (same_goal h g)) (fresh others g))

-- it is none of them exactly if each is another
fresh-all : (g : Goal) (others : List Goal) → list_all (other-than g) others ≡ fresh (reverse others) g
unfolding fresh ◌and◌
fresh-all g [] = refl
fresh-all g (h ∷ others) =
    rw (reverse-append (h ∷ []) others, last-in g (reverse others) h, fresh-all g others)

-- the goals before place i are others, and so is the one there
pub fresh-next : (g : Goal) (others : List Goal) (i : ℕ) (d : Goal) → i < length others → fresh (reverse (take i others)) g ≡ true
    → same_goal (get_or others i d) g ≡ false → fresh (reverse (take (i + 1) others)) g ≡ true
unfolding fresh ◌and◌
fresh-next g others i d l so_far other =
    rw (take_more others i d l, reverse-append (take i others) (get_or others i d ∷ []), other) so_far

-- the one there is the same
pub fresh-not : (g : Goal) (others : List Goal) (i : ℕ) (d : Goal) → i < length others → same_goal (get_or others i d) g ≡ true
    → fresh (reverse others) g ≡ false
fresh-not g others i d l same = sym (fresh-all g others) ∙ list_all_at (other-than g) others i d l (rw same)
