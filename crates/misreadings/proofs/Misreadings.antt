-- Where each misreading goes astray, by computation; and that a misread verdict differs from ours in one notion only.
use mathlib.Core.Path.{◌≡◌, refl, sym, ap}
use mathlib.Core.List.{List}
use Prim.Native.Nat.{ℕ}
use native.Mathlib.Omega.{arith}
use lib.ListN.{length}
use Rattle.table.proofs.WellFormed.{well-formed}
use Rattle.table.specs.Shop.{ann_asks, tableT}
use Rattle.table.specs.declared.Query.{Query}
use Rattle.table.proofs.Stages.{refused-accepted}
use Rattle.derivation.specs.Words.{met}
use Rattle.verifier.specs.Verdict.{verdict}
use Rattle.listing.specs.Minimal.{minimal_sets}
use Rattle.listing.proofs.Minimals.{is-minimal-set}
use Rattle.listing.proofs.Shop as lists
use Rattle.misreadings.specs.Misreadings.{Fewest, Misreadings, at_each_use, discount_first, fewest_sets, how_many, is_attached}
use Rattle.misreadings.specs.Misreadings.{is_fewest, met_from_own_node, met_through_own_node, met_used_or_not}
use Rattle.misreadings.specs.Misreadings.{first_accepted, met_first_word, not_accredited, not_student, outright, verdict_by}

-- with our own notion of when an automaton is met the verdict is ours
verdict-by-met : (t : List ℕ) (q : Query) (rec : List ℕ) → verdict_by met t q rec ≡ verdict t q rec
unfolding verdict_by verdict
verdict-by-met t q rec = refl

-- what the misreadings compute with
unfoldable opened : Unit {0}
unfolding lists.opened verdict_by at_each_use met_from_own_node met_through_own_node is_attached met_used_or_not first_accepted
    met_first_word how_many is_fewest fewest_sets discount_first not_accredited not_student
opened = tt

-- a list of two sets, and one of one set
lists-apart : minimal_sets tableT (ann_asks 2) ≡ fewest_sets tableT (ann_asks 2) → ⊥
unfolding opened
lists-apart e = let two-is-one : ◌≡◌ {A = ℕ} 2 1 = ap length e in omega arith

-- the record that has credential 4 alone uses fewer
not-fewest-seven : Fewest tableT (ann_asks 2) 7 → ⊥
unfolding opened
not-fewest-seven f = let three-at-most-one = f.fewest 8 (outright, refl) in omega arith

pub misreadings : Misreadings
unfolding opened
misreadings =
    record {
      ours = verdict-by-met;
      own-node-accepts = record { verifier = refl; misreader = refl; differ = refused-accepted };
      own-node-refuses = record { verifier = refl; misreader = refl; differ = λ e. refused-accepted (sym e) };
      own-words-accept = record { verifier = refl; misreader = refl; differ = refused-accepted };
      first-word-accepts = record { verifier = refl; misreader = refl; differ = refused-accepted };
      unused-refuses = record { verifier = refl; misreader = refl; differ = λ e. refused-accepted (sym e) };
      both-listed = refl;
      fewest-listed = refl;
      lists-differ = lists-apart;
      minimal = is-minimal-set tableT (well-formed tableT refl) (ann_asks 2) refl 7 refl;
      not-fewest = not-fewest-seven;
    }
