-- At each call of one of these functions by another k falls, or the set has fewer credentials, or it is a later one of them with
-- both as they are: the measures are seven times the sum of k and the set, and the functions' places.
use Rattle.std.proofs.Common.{◌+◌, ◌*◌}
use Rattle.admission.proofs.+admit.Given as goal

abbrev pub decreases-admits_by : goal.decreases-admits_by
decreases-admits_by l = 7 * (l.k + l.terms.allowed) + 2

abbrev pub decreases-admits_found : goal.decreases-admits_found
decreases-admits_found l = 7 * (l.k + l.terms.allowed) + 4

abbrev pub decreases-admits_free : goal.decreases-admits_free
decreases-admits_free l = 7 * (l.k + l.terms.allowed) + 3

abbrev pub decreases-admits_over : goal.decreases-admits_over
decreases-admits_over l = 7 * (l.k + l.terms.allowed) + 5

abbrev pub decreases-admits_under : goal.decreases-admits_under
decreases-admits_under l = 7 * (l.k + l.set) + 6

abbrev pub decreases-imposes_one : goal.decreases-imposes_one
decreases-imposes_one l = 7 * (l.k + l.terms.allowed) + 1

abbrev pub decreases-owes_one : goal.decreases-owes_one
decreases-owes_one l = 7 * (l.k + l.terms.allowed) + 1
