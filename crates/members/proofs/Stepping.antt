-- One step of a search: where more goals are proved by one test than by another, more are proved by a credential. Whoever is in a
-- role within some levels is in it within more, and whoever a test that is closed under all credentials leaves out never is.
use mathlib.Core.Path.{◌≡◌, refl}
use mathlib.Core.List.{List, [], ◌∷◌}
use mathlib.Core.Bool.{Bool, true, false}
use mathlib.Core.Option.{Option, none, some}
use Prim.Native.Nat.{ℕ, zero, suc, ◌<◌, ◌≤◌}
use native.Mathlib.Omega.{arith}
use native.Mathlib.Decide.{ℕ_discrete}
use lib.ListN.{length}
use lib.Dec.{eqb}
use Rattle.sets.specs.Logic.{◌and◌, pick}
use Rattle.sets.proofs.Tests.{and_both, and_first, and_second, any-reached, any-shows, false-true}
pub use Rattle.sets.proofs.Tests.{any-mono}
use Rattle.table.specs.Layout.{credential, credentials}
use Rattle.table.specs.declared.Goal.{Goal}
use Rattle.derivation.specs.Rules.{premises}
use Rattle.members.specs.Places.{is_person}
use Rattle.members.specs.Trying.{every_goal, may_use, proved_premises, proves_by}
use Rattle.members.specs.Members.{within}

pick-mono : (b : Bool) {x x' y y' : Bool} → (x ≡ true → x' ≡ true) → (y ≡ true → y' ≡ true) → pick b x y ≡ true
    → pick b x' y' ≡ true
unfolding pick
pick-mono true f g h = f h
pick-mono false f g h = g h

module _ (all all' : List Goal → Bool) (more : (goals : List Goal) → all goals ≡ true → all' goals ≡ true)
    (word word' : Bool) (ends : word ≡ true → word' ≡ true) where
  pub premises-mono : (asked : Option (List Goal)) → proved_premises all word asked ≡ true → proved_premises all' word' asked ≡ true
  unfolding proved_premises
  premises-mono none h = h
  premises-mono (some goals) h = pick-mono (eqb (length goals) 0) ends (more goals) h

  pub all-by-mono : (t : List ℕ) (g : Goal) (c : ℕ) → proves_by t all word g c ≡ true → proves_by t all' word' g c ≡ true
  unfolding proves_by
  all-by-mono t g c h =
      pick-mono (eqb (credential t c).kind 3)
      (any-mono _ _ (credentials t) (λ j l both.
      and_both (and_first (is_person t j) _ both)
      (premises-mono (premises t g c (credential t (suc j)).first) (and_second (is_person t j) _ both))))
      (premises-mono (premises t g c 0)) h

module _ (one one' : Goal → Bool) (more : (g : Goal) → one g ≡ true → one' g ≡ true) where
  pub every-mono : (goals : List Goal) → every_goal one goals ≡ true → every_goal one' goals ≡ true
  unfolding every_goal
  every-mono [] h = refl
  every-mono (g ∷ goals) h =
      and_both (more g (and_first (one g) _ h)) (every-mono goals (and_second (one g) _ h))

  module _ (word word' : Bool) (ends : word ≡ true → word' ≡ true) where
    pub proves-by-mono : (t : List ℕ) (g : Goal) (c : ℕ) → proves_by t (every_goal one) word g c ≡ true
        → proves_by t (every_goal one') word' g c ≡ true
    proves-by-mono = all-by-mono (every_goal one) (every_goal one') every-mono word word' ends

module _ (t : List ℕ) (S : ℕ) where
  -- within no level nothing is proved, within one more what some credential proves by what the levels before prove
  pub within_none : {A : Type 0} (g : Goal) → within t S 0 g ≡ true → A
  unfolding within
  within_none g h = absurd (false-true h)

  pub within_step : (k : ℕ) (g : Goal) → within t S (suc k) g ≡ true
      → (c : ℕ) × (c < credentials t) × (may_use t S g (suc c) ≡ true) × (proves_by t (every_goal (within t S k)) true g (suc c) ≡ true)
  unfolding within
  within_step k g h =
      let (c, l, both) = any-shows _ (credentials t) h in
      (c, l, and_first (may_use t S g (suc c)) _ both, and_second (may_use t S g (suc c)) _ both)

  pub within_by : (k : ℕ) (g : Goal) (c : ℕ) → c < credentials t → may_use t S g (suc c) ≡ true
      → proves_by t (every_goal (within t S k)) true g (suc c) ≡ true → within t S (suc k) g ≡ true
  unfolding within
  within_by k g c l may proved =
      any-reached (λ c. may_use t S g (suc c) and proves_by t (every_goal (within t S k)) true g (suc c)) (credentials t) c l
      (and_both may proved)

  -- who is a member within some levels is one within more
  pub within_more : (k : ℕ) (g : Goal) → within t S k g ≡ true → within t S (suc k) g ≡ true
  within_more zero g h = within_none g h
  within_more (suc k) g h =
      let (c, l, may, proved) = within_step k g h in
      within_by (suc k) g c l may
      (proves-by-mono (within t S k) (within t S (suc k)) (within_more k) true true (λ e. e) t g (suc c) proved)

  pub within-later : (k m : ℕ) → k ≤ m → (g : Goal) → within t S k g ≡ true → within t S m g ≡ true
  within-later k zero l g h = let e : k ≡ 0 = omega arith in rw e at h
  within-later k (suc m) l g h =
      go (ℕ_discrete k (suc m)) (λ before. within_more m g (within-later k m before g h))
    where
      go : Dec (k ≡ suc m) → (k ≤ m → within t S (suc m) g ≡ true) → within t S (suc m) g ≡ true
      go (yes same) earlier = rw same at h
      go (no less) earlier = earlier (omega arith)

  pub within-closed : (T : Goal → Bool)
      → ((g : Goal) (c : ℕ) → c < credentials t → may_use t S g (suc c) ≡ true → proves_by t (every_goal T) true g (suc c) ≡ true → T g ≡ true)
      → (k : ℕ) (g : Goal) → within t S k g ≡ true → T g ≡ true
  within-closed T closed zero g h = within_none g h
  within-closed T closed (suc k) g h =
      let (c, l, may, proved) = within_step k g h in
      closed g c l may
      (proves-by-mono (within t S k) T (within-closed T closed k) true true (λ e. e) t g (suc c) proved)
