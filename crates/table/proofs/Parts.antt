-- Gathering the parts of a chain: the roles of the cells so far stand in `roles`, and j is the next cell, or 0.
use mathlib.Core.Path.{◌≡◌, refl, sym, ◌∙◌}
use mathlib.Core.List.{List, [], ◌∷◌, ◌++◌, map, append-nil, append_assoc}
use mathlib.Core.Bool.{true}
use Prim.Native.Nat.{ℕ, suc, ◌+◌, ◌-◌, ◌≤◌, ◌<◌}
use native.Mathlib.Omega.{arith}
use lib.ListN.{length, length-append}
use Rattle.table.specs.Limits.{most_parts}
use Rattle.table.specs.Layout.{cell, cells, cells_from, parts, parts_by}
use Rattle.table.specs.Checks.{chain_ok}
use Rattle.table.specs.declared.Role.{Role}
use Rattle.table.proofs.Chains.{Walked, chain-range, walk-starts, walk_more, walk-goes-on, step_from, stop-at}

abbrev parts_from : List ℕ → ℕ → ℕ → List Role
parts_from t most j = map (λ (k : ℕ). (cell t k).role) (cells_from (cell t) most j)

pub record Gathered (t : List ℕ) (first : ℕ) (roles : List Role) (j : ℕ) : Type 0 where
  pub walked : Walked t first (length roles) j
  pub whole : roles ++ parts_from t (suc most_parts - length roles) j ≡ parts t first

pub gather-starts : (t : List ℕ) (first : ℕ) → first ≤ cells t → Gathered t first [] first
unfolding parts_by
gather-starts t first h = record { walked = walk-starts t first h; whole = refl }

module _ (t : List ℕ) (first : ℕ) (roles : List Role) (j : ℕ) (so_far : Gathered t first roles j) where
  pub gather-room : chain_ok t first ≡ true → (j ≡ 0 → ⊥) → length roles < most_parts
  gather-room ok h =
      let more = walk_more t first (length roles) j so_far.walked h in
      omega (arith, (chain-range t first ok).most)

  -- with cell j's role there is one role more among those gathered, and one less to come
  one_more : (j ≡ 0 → ⊥) → length roles < most_parts
      → (roles ++ (cell t j).role ∷ []) ++ parts_from t (suc most_parts - (length roles + 1)) (cell t j).next ≡ parts t first
  one_more h room =
      let one_less : suc most_parts - length roles ≡ suc (suc most_parts - (length roles + 1)) = omega arith in
      rw append_assoc
      (rw (one_less, step_from t (suc most_parts - (length roles + 1)) j h) at so_far.whole)

  pub gather-goes-on : (cell t j).next ≤ cells t → (j ≡ 0 → ⊥) → length roles < most_parts
      → Gathered t first (roles ++ (cell t j).role ∷ []) (cell t j).next
  gather-goes-on inside h room =
      record {
        walked = rw (length-append roles) (walk-goes-on t first (length roles) j so_far.walked inside h (omega arith));
        whole = rw (length-append roles) (one_more h room);
      }

  pub gather-ends : j ≡ 0 → roles ≡ parts t first
  gather-ends e = sym (append-nil roles) ∙ rw (stop-at t (suc most_parts - length roles) j e) at so_far.whole
