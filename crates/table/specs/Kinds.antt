-- docs/DEFINITION.md, "The table": which number stands for which kind, label and mark, and what reading such a number gives.
use Rattle.std.specs.Prelude.{ℕ, ◌≡◌, Result, MatchResult}
use Rattle.table.specs.declared.Kind.{Kind}
use Rattle.table.specs.declared.Kind.TheVariants as kind
use Rattle.table.specs.declared.Label.{Label}
use Rattle.table.specs.declared.Label.TheVariants as label
use Rattle.table.specs.declared.Mark.{Mark}
use Rattle.table.specs.declared.Mark.TheVariants as mark
use Rattle.table.specs.declared.OutOfRange.{OutOfRange}

abbrev pub kind_number : Kind → ℕ
kind_number kind.SimpleMembership = 1
kind_number kind.SimpleContainment = 2
kind_number kind.LinkingContainment = 3
kind_number kind.IntersectionContainment = 4

abbrev pub label_number : Label → ℕ
label_number label.ThisRole = 1
label_number label.EveryRole = 2
label_number label.OtherRoles = 3
label_number label.RolesOfOwner = 4

abbrev pub mark_number : Mark → ℕ
mark_number mark.EveryWord = 0
mark_number mark.SomeWord = 1

-- what x is read as: what has that number, or an error where nothing has
abbrev pub Reads : {A : Type 0} → (A → ℕ) → ℕ → Result A OutOfRange → Type 0
Reads {A} number x r = MatchResult r (λ a. x ≡ number a) (λ _. (a : A) → x ≡ number a → ⊥)
