-- The walk over a node goes on to what it asks, and the walk over that from child to child.
use Rattle.std.proofs.Common.{◌≡◌, ◌∙◌, ◌+◌, ◌-◌, ◌<◌, ℕ, List, [], ◌∷◌, true, suc, drop, length, sym, take, arith}
use Rattle.std.proofs.lemmas.List.{length-drop, take_all}
use Rattle.std.specs.Int.Bits.{bit_or}
use Rattle.families.specs.Families.{in_family}
use Rattle.families.specs.declared.Family.{Family}
use Rattle.table.specs.Holding.{WellFormed}
use Rattle.table.specs.Layout.{credential, credentials}
use Rattle.automata.specs.declared.StateSets.{StateSets}
use Rattle.members.specs.Above.{with_pair}
use Rattle.members.specs.declared.above.Above.{Above}
use Rattle.goals.specs.Goals.{stepped}
use Rattle.goals.proofs.Testing.{steps}
use Rattle.search.specs.Search.{Stands, goal_at, proves}
use Rattle.search.proofs.Placing.{searched-fewer}
use Rattle.choice.specs.Choice.{Wanted, suits}
use Rattle.walking.proofs.Children.{asked-beyond, asked-last, asked-next, asked-suits, asked-wanted, passed_none}
use Rattle.walking.proofs.Later.{child-there, family-wants, wants-family}
use Rattle.walking.proofs.Nodes.{Entered, children-asked, children-drop, chosen-suits, entered-left, node-ends, node-found, node-goes}
use Rattle.walking.proofs.Nodes.{node_over, suits-left}
use Rattle.walking.proofs.+walk_on.Goals as goal

-- branch and state sets are one role on
entered_by : {t : List ℕ} {S A O levels : ℕ} {above deeper : Above} {s below : StateSets} {wanted : Family} {person place : ℕ}
    → WellFormed t → Stands t person place × (place < credentials t) → Wanted O wanted
    → suits (proves t S A O levels above s) O (in_family wanted) (goal_at t person place ∷ []) ≡ true
    → below ≡ stepped t (bit_or A O) (credential t (suc place)).role s → deeper ≡ with_pair above person place
    → Entered t S A O levels above deeper s below (in_family wanted) person place
entered_by wf stands wanted suited moved deeper-is =
    record {
      well_formed = wf;
      stands = stands.0;
      there = stands.1;
      wanted = family-wants wanted;
      suited = suited;
      moved = moved;
      deeper-is = deeper-is;
    }

pub walk-overflow_sub-below : goal.walk-overflow_sub-below
walk-overflow_sub-below t c = suits-left _ _ _ _ _ _ _ _ (family-wants c.requires.wanted) _ _ c.requires.place_value

pub walk-choose-node-requires-clause-table_value : goal.walk-choose-node-requires-clause-table_value
walk-choose-node-requires-clause-table_value t c =
    let pre = c.requires in
    node-found (entered_by pre.searchable.well_formed pre.stands pre.wanted pre.place_value (steps _ _ _ _ c.stepped-moved.ensures) c.with.ensures)

pub walk-returns-then-len-eq0 : goal.walk-returns-then-len-eq0
walk-returns-then-len-eq0 t c =
    let pre = c.requires in
    let entered = entered_by pre.searchable.well_formed pre.stands pre.wanted pre.place_value (steps _ _ _ _ c.stepped-moved.ensures) c.with.ensures in
    let (chosen, now-remembered) = c.choose-node.ensures in
    let told = node-ends entered chosen c.put.ensures _ (sym c.len.ensures ∙ c.if-len-eq0.true) c.accepting-accepting.ensures in
    (record { walked = told.0; meets = told.1 }, now-remembered)

pub walk-returns-then-most-next : goal.walk-returns-then-most-next
walk-returns-then-most-next t c =
    let pre = c.requires in
    let entered = entered_by pre.searchable.well_formed pre.stands pre.wanted pre.place_value (steps _ _ _ _ c.stepped-moved.ensures) c.with.ensures in
    let (chosen, now-remembered) = c.choose-node.ensures in
    let told = node_over entered chosen c.put.ensures _ c.if-most-next.true 0 in
    (record { walked = told.0; meets = told.1 }, now-remembered)

pub walk-walk_asked-requires : goal.walk-walk_asked-requires
walk-walk_asked-requires t c =
    let pre = c.requires in
    let entered = entered_by pre.searchable.well_formed pre.stands pre.wanted pre.place_value (steps _ _ _ _ c.stepped-moved.ensures) c.with.ensures in
    let (chosen, now-remembered) = c.choose-node.ensures in
    let asked-is = c.as_slice-asked.ensures in
    let suited = chosen-suits entered chosen (λ none. c.if-len-eq0.false (c.len.ensures ∙ none)) in (
      omega (arith, entered-left entered),
      (
        searched-fewer _ (omega arith) pre.searchable,
        (
          rw asked-is (children-asked chosen.children),
          (pre.wanted, (now-remembered, (rw asked-is suited, (omega (arith, c.if-most-next.false), pre.at_le_most.1)))),
        ),
      ),
    )

pub walk-returns : goal.walk-returns
walk-returns t c =
    let pre = c.requires in
    let entered = entered_by pre.searchable.well_formed pre.stands pre.wanted pre.place_value (steps _ _ _ _ c.stepped-moved.ensures) c.with.ensures in
    let asked-is = c.as_slice-asked.ensures in
    let (walks, now-remembered) = c.walk_asked.ensures in
    let told = node-goes entered c.choose-node.ensures.0 c.put.ensures _ (λ none. c.if-len-eq0.false (c.len.ensures ∙ none))
    (rw asked-is at walks.walked) (rw asked-is at walks.meets) in
    (record { walked = told.0; meets = told.1 }, now-remembered)

-- what is behind the goal in hand
later-is : {X : Type 0} (xs : List X) (i : ℕ) → take (length xs - i) (drop i xs) ≡ drop i xs
later-is xs i = take_all (length xs - i) (drop i xs) (omega (arith, length-drop i xs))

pub walk_asked-loop-k-init : goal.walk_asked-loop-k-init
walk_asked-loop-k-init t c =
    let pre = c.requires in
    record {
      room = pre.from_le_most.0;
      passed = passed_none _ _ _ _ _ _ _ _ _ _ _ _ pre.asked_value;
      remembered = pre.remembered;
    }

pub walk_asked-wanted_here-here-requires-clause-children : goal.walk_asked-wanted_here-here-requires-clause-children
walk_asked-wanted_here-here-requires-clause-children t c =
    rw (later-is c.args.asked.now (c.loop-k.k + 1)) (children-drop c.requires.children (c.loop-k.k + 1))

pub walk_asked-walk-walked-requires : goal.walk_asked-walk-walked-requires
walk_asked-walk-walked-requires t c =
    let pre = c.requires in
    let wf = pre.searchable.well_formed in
    let wanted = family-wants pre.wanted in
    let so_far = c.loop-k.invariant in
    let next : c.loop-k.k < length c.args.asked.now = omega arith in
    let (told, now-remembered) = c.wanted_here-here.ensures in
    let alike = rw (later-is c.args.asked.now (c.loop-k.k + 1)) at told in (
      omega arith,
      (
        pre.searchable,
        (
          (pre.children.stands _ next, child-there pre.children _ next),
          (
            wants-family (asked-wanted wf _ _ _ _ _ _ _ wanted c.args.asked.now _ next so_far.passed _ alike),
            (
              now-remembered,
              (
                asked-suits wf _ _ _ _ _ _ _ wanted c.args.asked.now _ next so_far.passed _ alike,
                (so_far.room, pre.from_le_most.1),
              ),
            ),
          ),
        ),
      ),
    )

pub walk_asked-loop-k-preserved : goal.walk_asked-loop-k-preserved
walk_asked-loop-k-preserved t c =
    let pre = c.requires in
    let so_far = c.loop-k.invariant in
    let next : c.loop-k.k < length c.args.asked.now = omega arith in
    let alike = rw (later-is c.args.asked.now (c.loop-k.k + 1)) at c.wanted_here-here.ensures.0 in
    let (walks, now-remembered) = c.walk-walked.ensures in
    let room = c.if-most-next.false in
    record {
      room = omega (arith, room);
      passed = asked-next pre.searchable.well_formed _ _ _ _ _ _ _ (family-wants pre.wanted) c.args.asked.now _ next so_far.passed _
          alike so_far.room walks.walked _ (walks.meets (omega (arith, room)));
      remembered = now-remembered;
    }

pub walk_asked-returns-after-loop-k : goal.walk_asked-returns-after-loop-k
walk_asked-returns-after-loop-k t c =
    let so_far = c.loop-k.invariant in
    let told = asked-last _ _ _ _ _ _ _ _ _ c.args.asked.now _ (omega (arith, c.loop-k-test.false)) so_far.passed in
    (record { walked = told.0; meets = λ room. told.1 }, so_far.remembered)

pub walk_asked-returns-then-most-next : goal.walk_asked-returns-then-most-next
walk_asked-returns-then-most-next t c =
    let pre = c.requires in
    let so_far = c.loop-k.invariant in
    let next : c.loop-k.k < length c.args.asked.now = omega arith in
    let alike = rw (later-is c.args.asked.now (c.loop-k.k + 1)) at c.wanted_here-here.ensures.0 in
    let (walks, now-remembered) = c.walk-walked.ensures in (
      record {
        walked =
            asked-beyond pre.searchable.well_formed _ _ _ _ _ _ _ (family-wants pre.wanted) c.args.asked.now _ next so_far.passed _
            alike so_far.room walks.walked c.if-most-next.true;
        meets = λ room. absurd (omega (arith, c.if-most-next.true));
      },
      now-remembered,
    )
