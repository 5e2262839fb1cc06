-- Where no automaton is imposed and none owed, members by levels are exact: whoever is a member within so many levels is derived to be one. Take
-- for every goal the least level at which it is a member: what it is proved through are members within one level less, so that
-- least levels fall along every branch, and no pair of principal and role comes twice.
use mathlib.Core.Path.{◌≡◌, refl, sym, ap, ap₂, ◌∙◌}
use mathlib.Core.List.{List}
use mathlib.Core.Bool.{Bool, true, false, not}
use Prim.Native.Nat.{ℕ, zero, suc, ◌<◌}
use native.Mathlib.Omega.{arith}
use native.Mathlib.Decide.{ℕ_discrete}
use lib.ListN.{length}
use lib.Bits.{bit_or}
use lib.Dec.{eqb}
use borrow.Author.Tests.{eqb-true}
use Rattle.sets.specs.Logic.{◌and◌}
use Rattle.sets.proofs.Tests.{and_both, and_first, and_second, any-reached, false-true, or-either, refuted, same_test}
use Rattle.sets.proofs.Members.{part-or, part-zero}
use Rattle.table.specs.Limits.{most_credentials}
use Rattle.table.specs.Layout.{credential, credentials, principal, same_role}
use Rattle.table.specs.Holding.{WellFormed}
use Rattle.table.specs.declared.Role.{Role}
use Rattle.table.specs.declared.Goal.{Goal}
use Rattle.automata.specs.declared.StateSets.{StateSets}
use Rattle.derivation.specs.Rules.{goal}
use Rattle.members.specs.Above.{is_above, nothing_above, with_goal}
use Rattle.members.specs.declared.above.Above.{Above}
use Rattle.members.specs.Members.{within}
use Rattle.members.specs.Places.{person_at, role_at}
use Rattle.members.specs.Trying.{every_goal, may_use, proves_by}
use Rattle.members.proofs.Branching.{HasPlace, nothing_above_lem, nothing-room, pair-room, with_pair_lem}
use Rattle.members.proofs.ByKind.{by-membership, some-role}
use Rattle.members.proofs.Places.{person-named, person-stands, place_same, role-defined}
use Rattle.members.proofs.Reading.{numbered}
use Rattle.members.proofs.Stepping.{all-by-mono, every-mono, within_more, within_none, within_step}
use Rattle.goals.specs.Goals.{stepped}
use Rattle.search.specs.Search.{ends, proves, shares}
use Rattle.search.proofs.Sharing.{shares-every}
use Rattle.search.proofs.Owing.{proves-more}
use Rattle.search.proofs.Placing.{proves-within}

-- goals that stand at the same places are the same
same-places : (t : List ℕ) (g h : Goal) → HasPlace t h
    → (eqb (person_at t g.principal.0) (person_at t h.principal.0) and eqb (role_at t g.role) (role_at t h.role)) ≡ true
    → g ≡ h
same-places t g h there same =
    let person = eqb-true (person_at t g.principal.0) _ (and_first _ _ same) in
    let place = eqb-true (role_at t g.role) _ (and_second _ _ same) in
    let first = (person-stands t g.principal.0 (rw person there.named)).1 in
    let who = sym first ∙ ap (λ (k : ℕ). (credential t (suc k)).first) person ∙ (person-stands t h.principal.0 there.named).1 in
    ap₂ (λ p r. goal (principal p) r) who (place_same t g.role h.role place (rw place there.defined))

module _ (t : List ℕ) (wf : WellFormed t) (S : ℕ) where
  -- whom a credential proves to be in its role some simple membership names: itself, or one by which its premises are proved
  principal-named : (g : Goal) (c : ℕ) → c < credentials t → same_role (credential t (suc c)).role g.role ≡ true
      → (one : Goal → Bool) → proves_by t (every_goal one) true g (suc c) ≡ true
      → ((r : Role) → one (goal g.principal r) ≡ true → person_at t g.principal.0 < credentials t)
      → Dec ((credential t (suc c)).kind ≡ 1) → person_at t g.principal.0 < credentials t
  principal-named g c l own one proved below (yes kind) =
      let by = sym (by-membership t wf (every_goal one) true g (suc c) (numbered l) own kind) ∙ proved in
      person-named t g.principal.0 c l kind (eqb-true _ _ (and_first _ _ by))
  principal-named g c l own one proved below (no other) =
      let (r, inside) = some-role t wf one true g (suc c) (numbered l) own proved other in
      below r inside

  -- a member has a place
  within-placed : (k : ℕ) (g : Goal) → within t S k g ≡ true → HasPlace t g
  unfolding may_use
  within-placed zero g h = within_none t S g h
  within-placed (suc k) g h =
      let (c, l, may, proved) = within_step t S k g h in
      let own = and_second _ _ may in
      record {
        defined = role-defined t g.role c l own;
        named =
            principal-named g c l own (within t S k) proved (λ r inside. (within-placed k (goal g.principal r) inside).named)
            (ℕ_discrete (credential t (suc c)).kind 1);
      }

  -- no goal on the branch is a member within so many levels
  abbrev Later : ℕ → Above → Type 0
  Later k above = (g : Goal) → is_above t above g ≡ true → within t S k g ≡ false

  later-fewer : (k : ℕ) (above : Above) → Later (suc k) above → Later k above
  later-fewer k above later g on = refuted _ (λ inside. false-true (sym (later g on) ∙ within_more t S k g inside))

  -- a goal that is none within so many levels comes on the branch
  later-next : (k : ℕ) (above : Above) → length above.persons ≡ most_credentials → Later (suc k) above → (g : Goal)
      → within t S k g ≡ false → Later k (with_goal t above g)
  unfolding is_above with_goal
  later-next k above room later g new h on =
      refuted _ (λ inside.
      let there = within-placed k h inside in
      let place = with_pair_lem above (person_at t g.principal.0) (role_at t g.role) (person_at t h.principal.0)
      (role_at t h.role) (omega (arith, there.defined, room, wf.sized.counted.few_credentials)) in
      or-either (λ before. false-true (sym (later h before) ∙ within_more t S k h inside))
      (λ same. false-true (sym new ∙ ap (within t S k) (same-places t g h there same) ∙ inside)) (sym place ∙ on))

  -- nothing is asked of a word
  free-word : (s : StateSets) → ends t 0 s 0 ≡ true
  unfolding ends
  free-word s = part-or 0 0 _ (part-zero _) (part-zero _)

  room_next : (above : Above) (g : Goal) → length above.persons ≡ most_credentials
      → length (with_goal t above g).persons ≡ most_credentials
  unfolding with_goal
  room_next above g room = pair-room above (person_at t g.principal.0) (role_at t g.role) ∙ room

  -- a goal that is none of those on the branch is proved, where what it is proved through is
  through-proved : (k : ℕ) (above : Above) (s : StateSets) (g : Goal) → is_above t above g ≡ false → within t S (suc k) g ≡ true
      → ((h : Goal) → within t S k h ≡ true → proves t S 0 0 k (with_goal t above g) (stepped t (bit_or 0 0) g.role s) h 0 ≡ true)
      → proves t S 0 0 (suc k) above s g 0 ≡ true
  unfolding proves
  through-proved k above s g new h each =
      let (c, l, may, proved) = within_step t S k g h in
      let below = stepped t (bit_or 0 0) g.role s in
      let one = proves t S 0 0 k (with_goal t above g) below in
      and_both (ap not new)
      (any-reached _ (credentials t) c l (and_both may
      (all-by-mono (every_goal (within t S k)) (λ goals. shares one 0 goals 0)
      (λ goals inside. shares-every one goals ∙ every-mono (within t S k) (λ h. one h 0) each goals inside) true (ends t 0 below 0)
      (λ e. free-word below) t g (suc c) proved)))

  -- below a branch of goals that are no members within so many levels, each that is one is proved: as it is one level less, or,
  -- where this is its least level, through members within one level less
  member-proved : (k : ℕ) (above : Above) → length above.persons ≡ most_credentials → Later k above → (s : StateSets) (g : Goal)
      → within t S k g ≡ true → proves t S 0 0 k above s g 0 ≡ true
  member-proved zero above room later s g h = within_none t S g h
  member-proved (suc k) above room later s g h =
      either (within t S k g)
      (λ e. proves-more t S 0 0 k above s g 0 (member-proved k above room (later-fewer k above later) s g e))
      (λ e.
      through-proved k above s g (refuted (is_above t above g) (λ on. false-true (sym (later g on) ∙ h))) h
      (member-proved k (with_goal t above g) (room_next above g room) (later-next k above room later g e)
      (stepped t (bit_or 0 0) g.role s)))
    where
      either : {P : Type 0} (b : Bool) → (b ≡ true → P) → (b ≡ false → P) → P
      either true on off = on refl
      either false on off = off refl

  -- from the query's goal on, where nothing stands above
  pub members-exact : (k : ℕ) (s : StateSets) (g : Goal) → within t S k g ≡ proves t S 0 0 k nothing_above s g 0
  members-exact k s g =
      same_test _ _
      (member-proved k nothing_above nothing-room (λ h on. absurd (false-true (sym (nothing_above_lem t h) ∙ on))) s g)
      (proves-within t S 0 0 k nothing_above s g 0)
