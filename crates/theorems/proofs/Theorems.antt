-- Every theorem of the product: its sentence, its statement, its proof. Read this file first; a statement is found where its name
-- is imported from. The statements speak of `table_outcome`, `verdict`, `listing`, `buffer_after`, `writing`, `record_after` and
-- `program_prints`: the contracts in src/ of the crates checks, verifier, listing, writing and printing equate what their calls
-- return and leave in the lent cells with these, for every slice of every length.
use Prim.Native.Nat.{ℕ}
use mathlib.Core.List.{List}
use Rattle.table.specs.Checks.{AcceptedTable, Valid}
use Rattle.table.specs.declared.Query.{Query}
use Rattle.table.specs.Promised.{RefusesEdge}
use Rattle.table.specs.Upgraded.{Upgrading as UpgradingTables}
use Rattle.automata.specs.Promised.{DeadUnion, EmptyStays, EmptyUnion, EmptyWhere, MatchesOwner, MovesUnion, MovesUnions}
use Rattle.automata.specs.Promised.{NamesOwner, TellsEmpty}
use Rattle.derivation.specs.Bounds.{FewNodes, MostNodes, NoneExcluded, ShortEnough}
use Rattle.derivation.specs.Promised.{CompliesWhere, DerivesNoneTwice, MetByEvery, MetBySome, MetUnused, NoPairTwice}
use Rattle.search.specs.Promised.{MembersExact, NothingLost}
use Rattle.verifier.specs.DemandTwo.{DemandTwo, EveryRefusal, FirstRefusal, OneDerivation}
use Rattle.verifier.specs.Promised.{ReadNoneTwice}
use Rattle.listing.specs.Demands.{DemandOne, DemandThree}
use Rattle.listing.specs.Promised.{ListedNoneTwice}
use Rattle.writing.specs.Writes.{NoneBegins, WritesFirst}
use Rattle.writing.specs.Promised.{WrittenNoneTwice}
use Rattle.lines.specs.Printed.{DecimalReads}
use Rattle.misreadings.specs.Misreadings.{Misreadings}
use Rattle.renumbering.specs.Promised.{AdmittedAlike, ListsAlike, ListsInOrder, MinimalAlike, VerdictAlike}
use Rattle.upgrading.specs.Upgrading.{Upgrading as UpgradingLists}
use Rattle.upgrading.specs.Unmarked.{SameFirst, SameMinimal, SameVerdicts}
use Rattle.table.proofs.Promised as table
use Rattle.table.proofs.Upgrading as table-upgrading
use Rattle.automata.proofs.Promised as automata
use Rattle.automata.proofs.Unions as unions
use Rattle.derivation.proofs.Bounding as bounding
use Rattle.derivation.proofs.Complying as complying
use Rattle.derivation.proofs.Promised as derivation
use Rattle.search.proofs.Leaving as leaving
use Rattle.search.proofs.Promised as search
use Rattle.verifier.proofs.DemandTwo as verifier
use Rattle.verifier.proofs.Promised as verifier-promised
use Rattle.listing.proofs.Demanding as listing
use Rattle.listing.proofs.Promised as listing-promised
use Rattle.listing.proofs.Shop as shop
use Rattle.writing.proofs.Ordering as ordering
use Rattle.writing.proofs.Promised as writing-promised
use Rattle.writing.proofs.WritesFirst as writing
use Rattle.lines.proofs.Decimals as decimals
use Rattle.misreadings.proofs.Misreadings as misreadings
use Rattle.renumbering.proofs.Promised as renumbering
use Rattle.upgrading.proofs.Upgrading as lists-upgrading
use Rattle.upgrading.proofs.Unmarked as unmarked

-- DEMAND 1: every input gets a result or exactly its refusal; what happens to the buffer
pub demand-one : (t : List ℕ) (q : Query) (rec buffer : List ℕ) → DemandOne t q rec buffer
demand-one = (listing.demands).0

-- DEMAND 2: the verifier accepts exactly the records that derive and comply, and reports their used set
pub demand-two : DemandTwo
demand-two = verifier.demand-two

-- a record has at most one derivation
pub one-derivation : OneDerivation
one-derivation = verifier.one-derivation

-- reading stops with the first number that applies, at the first node
pub first-refusal : FirstRefusal
first-refusal = verifier.first-refusal

-- a record is refused with the first number and position that apply, and with no other
pub every-refusal : EveryRefusal
every-refusal = verifier.every-refusal

-- DEMAND 3: the list is full, right and ascending, and both ends agree
pub demand-three : (t : List ℕ) (q : Query) (buffer : List ℕ) → AcceptedTable t → Valid q → DemandThree t q buffer
demand-three = (listing.demands).1

-- TICKET 1: the accepted record that uses exactly a listed set and is first is written; 15 and 16 where the ticket says
pub writes-first : WritesFirst
writes-first = writing.writes-first

-- of two records of derivations of the same goals none begins the other
pub none-begins : NoneBegins
none-begins = ordering.none-begins

-- TICKET 2: label 4 matches every role of the named owner
pub matches-owner : MatchesOwner
matches-owner = automata.matches-owner

-- its name field is 0, and its owner a principal
pub names-owner : NamesOwner
names-owner = automata.names-owner

-- refusal 7 at edge i, exactly when it is the first whose fields are not as its label allows
pub refuses-edge : RefusesEdge
refuses-edge = table.refuses-edge

-- a move reports whether the new set is empty
pub tells-empty : TellsEmpty
tells-empty = automata.tells-empty

-- a set is empty after a move exactly where no edge leads on
pub empty-where : EmptyWhere
empty-where = automata.empty-where

-- an empty set stays empty, so no extension of the word is accepted
pub empty-stays : EmptyStays
empty-stays = automata.empty-stays

-- TICKET 3: a goal may come on a branch exactly if it is none of those there
pub no-pair-twice : NoPairTwice
no-pair-twice = derivation.no-pair-twice

-- on every branch of every derivation no pair comes twice
pub derives-none-twice : DerivesNoneTwice
derives-none-twice = derivation.derives-none-twice

-- on every branch of a record that is read and accepted
pub read-none-twice : ReadNoneTwice
read-none-twice = verifier-promised.read-none-twice

-- of an accepted record for each listed set
pub listed-none-twice : ListedNoneTwice
listed-none-twice = listing-promised.listed-none-twice

-- and of the record that is written
pub written-none-twice : WrittenNoneTwice
written-none-twice = writing-promised.written-none-twice

-- each set that was listed under the rule before includes one that is listed now
pub upgrading-lists : UpgradingLists
upgrading-lists = lists-upgrading.upgrading

-- TICKET 4: moving the union of two sets gives the union of the two moved sets
pub moves-union : MovesUnion
moves-union = unions.moves-union

-- and so it is for the sets of all automata together
pub moves-unions : MovesUnions
moves-unions = unions.moves-unions

-- the moved union is empty exactly where both moved sets are
pub empty-union : EmptyUnion
empty-union = unions.empty-union

-- of the union a move reports those automata dead that it reports dead of both
pub dead-union : DeadUnion
dead-union = unions.dead-union

-- TICKET 5: a used automaton with mark 1 is met exactly when some word of the record is accepted
pub met-by-some : MetBySome
met-by-some = complying.met-by-some

-- with mark 0, exactly when every word is
pub met-by-every : MetByEvery
met-by-every = complying.met-by-every

-- an automaton that is not used is never in the way
pub met-unused : MetUnused
met-unused = complying.met-unused

-- a record complies exactly if there is no used automaton that is not met
pub complies-where : CompliesWhere
complies-where = complying.complies-where

-- older tables get 0: the checks report the same, and the records are the same
pub upgrading-tables : UpgradingTables
upgrading-tables = table-upgrading.upgrading

-- they have the same verdicts,
pub same-verdicts : SameVerdicts
same-verdicts = unmarked.same-verdicts

-- the same minimal sets
pub same-minimal : SameMinimal
same-minimal = unmarked.same-minimal

-- and the same first records
pub same_first : SameFirst
same_first = unmarked.same_first

-- BESIDES: a derivation within n levels has at most (4^n - 1) / 3 nodes for each goal,
pub few-nodes : FewNodes
few-nodes = bounding.few-nodes

-- which is 1,431,655,765 for the deepest limit;
pub most-nodes : MostNodes
most-nodes = bounding.most-nodes

-- a slice can be that long,
pub short-enough : ShortEnough
short-enough = bounding.short-enough

-- so that no derivation is excluded by what a slice can hold
pub none-excluded : NoneExcluded
none-excluded = bounding.none-excluded

-- the digits that the program prints stand for the number
pub decimal-reads : DecimalReads
decimal-reads = decimals.decimal-reads

-- APART: no demand and no ticket rests on what follows. It is in words of the search, of the law of agreement, of an example, or of
-- readings that are not ours. Where no constraint is imposed and none owed, the table of members is exact
pub members-exact : MembersExact
members-exact = search.members-are-exact

-- tables whose credentials of some numbers say the same under other numbers: a record that uses none but these is accepted there
-- with its credentials renumbered,
pub verdict-alike : VerdictAlike
verdict-alike = renumbering.verdict-alike

-- a set of these that admits a record does so there,
pub admitted-alike : AdmittedAlike
admitted-alike = renumbering.admitted-alike

-- and a minimal set is minimal there;
pub minimal-alike : MinimalAlike
minimal-alike = renumbering.minimal-alike

-- where no accepted record uses others, the list there is this one, renumbered and sorted afresh,
pub lists-alike : ListsAlike
lists-alike = renumbering.lists-alike

-- and where the renumbering keeps the order, renumbered alone
pub lists-in-order : ListsInOrder
lists-in-order = renumbering.lists-in-order

-- a search that leaves a dead branch loses nothing
pub nothing-lost : NothingLost
nothing-lost = leaving.nothing-lost

-- the rows of the shop example have the expected results
pub shop-rows : shop.RowsHold shop.shop_rows
shop-rows = shop.shop-rows

-- each misreading of the 2015 text differs from ours, and so does a verifier that judges only the first word
pub misread : Misreadings
misread = misreadings.misreadings
