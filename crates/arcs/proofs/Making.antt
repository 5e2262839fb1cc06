-- The loop over the edges: the index is one of the table all the while, and the row, which has not been made yet, has the arcs of
-- the edges so far.
use mathlib.Core.Path.{◌≡◌, refl, sym, ◌∙◌}
use mathlib.Core.List.{List}
use mathlib.Core.Bool.{true, false}
use Prim.Native.Nat.{ℕ, ◌+◌, ◌-◌, ◌^◌, ◌<◌, ◌≤◌}
use native.Mathlib.Omega.{arith}
use native.Mathlib.Numerals.{add-one}
use native.Mathlib.Decide.{ℕ_discrete}
use lib.ListN.{get_or, length, set, length-set}
use lib.Seq.{get_or-set_same, get_or-set_other}
use Rattle.table.specs.Limits.{last_state, most_automata, most_credentials}
use Rattle.table.specs.Layout.{Numbered, credential, credentials, edge, edges}
use Rattle.table.specs.Holding.{WellFormed}
use Rattle.table.specs.declared.Credential.{Credential}
use Rattle.table.specs.declared.Edge.{Edge}
use Rattle.table.specs.declared.Role.{Role}
use Rattle.edges.specs.Edges.{matches}
use Rattle.moves.specs.Arcs.{Arcs, index_cells, made, made_cell, most_arcs}
use Rattle.moves.proofs.Arcs.{index-whole}
use Rattle.placing.specs.Placing.{Cleared, Elsewhere, ArcFound, arc_with}
use Rattle.arcs.specs.Filling.{Filling, RowMade}
use Rattle.arcs.proofs.Filling.{filling-all, filling-more, filling-none, filling-past}
use Rattle.arcs.proofs.Marking.{arcs-elsewhere, arcs-marked, head-same}
use Rattle.arcs.proofs.Rooms.{arc-there}
use Rattle.placing.proofs.Putting.{Fits, put-elsewhere}

pub record Making (t : List ℕ) (r : Role) (p n : ℕ) (before arcs : List ℕ) : Type 0 where
  pub few : credentials t ≤ most_credentials
  pub there : p < credentials t
  pub full : length arcs ≡ index_cells
  pub index : Arcs t arcs
  pub unmade : get_or before (made_cell p) 0 ≡ made → ⊥
  pub marks : (q : ℕ) → q < most_credentials → get_or arcs (made_cell q) 0 ≡ get_or before (made_cell q) 0
  pub filling : Filling t r arcs p n

-- cells of the row have changed, and no mark
module _ (t before : List ℕ) {p : ℕ} {arcs after : List ℕ} (e : Elsewhere p arcs after) (few : credentials t ≤ most_credentials)
    (there : p < credentials t) (marks : (q : ℕ) → q < most_credentials → get_or arcs (made_cell q) 0 ≡ get_or before (made_cell q) 0)
    (unmade : get_or before (made_cell p) 0 ≡ made → ⊥) where
  marks-kept : (q : ℕ) → q < most_credentials → get_or after (made_cell q) 0 ≡ get_or before (made_cell q) 0
  marks-kept q less = head-same e (made_cell q) (omega arith) ∙ marks q less

  index_kept : Arcs t arcs → Arcs t after
  index_kept index = arcs-elsewhere e few index (λ is. unmade (sym (marks p (omega arith)) ∙ is))

-- the row has been cleared
module _ {p : ℕ} {before after : List ℕ} (c : Cleared p before after) where
  pub making-none : {t : List ℕ} (r : Role) → WellFormed t → Arcs t before → p < credentials t → length before ≡ index_cells
      → (get_or before (made_cell p) 0 ≡ made → ⊥) → Making t r p 0 after after
  making-none {t} r wf index there full unmade =
      let few = wf.sized.counted.few_credentials in
      record {
        few = few;
        there = there;
        full = c.elsewhere.room ∙ full;
        index = arcs-elsewhere c.elsewhere few index unmade;
        unmade = λ is. unmade (sym (head-same c.elsewhere (made_cell p) (omega arith)) ∙ is);
        marks = λ q less. refl;
        filling = filling-none c t r;
      }

  -- what has been made since has been made after all
  pub made-since : {now : List ℕ} → RowMade p after now → RowMade p before now
  made-since m =
      record { own = m.own; kept = λ q less is. m.kept q less (head-same c.elsewhere (made_cell q) (omega arith) ∙ is) }

-- the index has the row
pub making-room : {t : List ℕ} {r : Role} {p n : ℕ} {before arcs : List ℕ} → Making t r p n before arcs
    → (length arcs ≡ index_cells) × (p < most_credentials)
making-room m = (m.full, omega (arith, m.there, m.few))

-- the next edge, which the code has read as e, does not match
module _ {t : List ℕ} {r : Role} {p n : ℕ} {before arcs : List ℕ} (m : Making t r p n before arcs) (e : Edge)
    (read : e ≡ edge t (n + 1)) where
  pub making-past : matches e r ≡ false → Making t r p (n + 1) before arcs
  making-past off =
      record {
        few = m.few;
        there = m.there;
        full = m.full;
        index = m.index;
        unmade = m.unmade;
        marks = m.marks;
        filling = filling-past m.filling e read off;
      }

  -- or it does, and there is an arc for it
  module _ (l : ℕ) {to : ℕ} (leads : to ≡ 2 ^ e.to) (found : ArcFound arcs p to l) (state : e.to ≤ last_state) where
    pub making-found : l < most_arcs
    making-found = arc-there m.filling e l (rw leads at found) (omega (arith, state))

    pub making-more : {after : List ℕ} → Numbered most_automata e.automaton → matches e r ≡ true → after ≡ arc_with arcs p l e
        → Making t r p (n + 1) before after
    making-more own on is =
        let (size, there) = making-room m in
        let fits : Fits arcs p l e =
        record { size = size; there = there; less = making-found; own = own; state = omega (arith, state) } in
        let elsewhere = put-elsewhere fits in
        rw is (record {
          few = m.few;
          there = m.there;
          full = elsewhere.room ∙ m.full;
          index = index_kept t before elsewhere m.few m.there m.marks m.unmade m.index;
          unmade = m.unmade;
          marks = marks-kept t before elsewhere m.few m.there m.marks m.unmade;
          filling = filling-more m.filling e read l fits (rw leads at found) on;
        })

-- the length stays when the row is marked
pub making-length : {t : List ℕ} {r : Role} {p n : ℕ} {before arcs : List ℕ} → Making t r p n before arcs → (v : ℕ)
    → length (set arcs (made_cell p) v) ≡ index_cells
making-length {p = p} {arcs = arcs} m v = length-set arcs (made_cell p) v ∙ m.full

-- all edges have been taken, and the row is marked
pub making-all : {t : List ℕ} {p n : ℕ} {before arcs : List ℕ} (c : Credential) → c ≡ credential t (p + 1)
    → Making t c.role p n before arcs → n ≡ edges t
    → Arcs t (set arcs (made_cell p) made) × RowMade p before (set arcs (made_cell p) made)
making-all {t} {p} {n} {before} {arcs} c read m all = (
  arcs-marked p made m.index m.full m.there m.few (λ is. rw (read, add-one p) at (filling-all m.filling all)),
  record { own = own; kept = λ q less is. kept q less is (ℕ_discrete q p) },
)
  where
    own : get_or (set arcs (made_cell p) made) (made_cell p) 0 ≡ made
    own = get_or-set_same arcs (made_cell p) made 0 (omega (arith, m.full, m.there, m.few))

    kept : (q : ℕ) → q < most_credentials → get_or before (made_cell q) 0 ≡ made → Dec (q ≡ p)
        → get_or (set arcs (made_cell p) made) (made_cell q) 0 ≡ made
    kept q less is (yes same) = rw same own
    kept q less is (no apart) =
        get_or-set_other arcs (made_cell p) (made_cell q) made 0 (λ at. apart (omega (arith, at))) ∙ m.marks q less ∙ is

-- an index that is not empty has a mark for each credential
pub made-cell : {t : List ℕ} {p : ℕ} {arcs : List ℕ} → WellFormed t → Arcs t arcs → p < credentials t → (length arcs ≡ 0 → ⊥)
    → made_cell p < length arcs
made-cell wf index there some = omega (arith, index-whole index.room some, wf.sized.counted.few_credentials)

-- to count how often a row was asked for does not make it
pub asked-again : {t : List ℕ} {p asked : ℕ} {arcs : List ℕ} → WellFormed t → Arcs t arcs → p < credentials t
    → (length arcs ≡ 0 → ⊥) → asked < made - 1 → Arcs t (set arcs (made_cell p) (asked + 1))
asked-again {p = p} {asked = asked} wf index there some few =
    arcs-marked p (asked + 1) index (index-whole index.room some) there wf.sized.counted.few_credentials
    (λ is. absurd (omega (arith, few, is)))
