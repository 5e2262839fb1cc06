-- A table by its records, whatever its layout and limits: what is not one of its records is blank, so that two tables with the
-- same records are equal here, and mean the same. `opened t` is a table of today's layout; an older layout has its own.
use Rattle.std.specs.Prelude.{ℕ, List, Bool, eqb}
use Rattle.std.proofs.Math.Option.{Option}
use Rattle.sets.specs.Logic.{pick}
use Rattle.sets.specs.Sets.{meets}
use Rattle.table.specs.Layout
use Rattle.table.specs.Layout.{parts_by, role}
use Rattle.table.specs.Encoded.{automaton_of, credential_of, edge_of}
use Rattle.table.specs.Checks.{within}
use Rattle.table.specs.declared.Credential.{Credential}
use Rattle.table.specs.declared.Cell.{Cell}
use Rattle.table.specs.declared.Automaton.{Automaton}
use Rattle.table.specs.declared.Edge.{Edge}
use Rattle.table.specs.declared.Goal.{Goal}
use Rattle.table.specs.declared.Role.{Role}
use Rattle.automata.specs.Automata.{moved_by, run_by}
use Rattle.derivation.specs.Rules.{asks_by, premises_by, usable_by}
use Rattle.derivation.specs.Words.{demanded_by}
use Rattle.agreement.specs.Meaning.{Meaning, demands_of}

pub record Opened : Type 0 where
  pub credentials : ℕ
  pub credential : ℕ → Credential
  pub cells : ℕ
  pub cell : ℕ → Cell
  pub automata : ℕ
  pub automaton : ℕ → Automaton
  pub edges : ℕ
  pub edge : ℕ → Edge

-- the records 1 to n, and blank beyond
unfoldable pub numbered : {A : Type 0} → ℕ → A → (ℕ → A) → ℕ → A
numbered n blank at i = pick (within 1 n i) (at i) blank

abbrev pub opened_by : (credentials : ℕ) → (ℕ → Credential) → (cells : ℕ) → (ℕ → Cell) → (automata : ℕ) → (ℕ → Automaton)
    → (edges : ℕ) → (ℕ → Edge) → Opened
opened_by n credential q cell a automaton e edge =
    record {
      credentials = n;
      credential = numbered n (credential_of 0 0 0 0 0 0) credential;
      cells = q;
      cell = numbered q (record { role = role 0 0; next = 0 }) cell;
      automata = a;
      automaton = numbered a (automaton_of 0 0 0) automaton;
      edges = e;
      edge = numbered e (edge_of 0 0 0 0 0 0) edge;
    }

abbrev pub opened : List ℕ → Opened
opened t =
    opened_by (Layout.credentials t) (Layout.credential t) (Layout.cells t) (Layout.cell t) (Layout.automata t)
    (Layout.automaton t) (Layout.edges t) (Layout.edge t)

-- `most` is the greatest principal
unfoldable pub premises_of : (most : ℕ) → Opened → Goal → ℕ → ℕ → Option (List Goal)
premises_of most o g c m =
    premises_by (usable_by o.credentials c) (asks_by most (parts_by o.cell)) g (o.credential c) m

unfoldable pub accepts_of : Opened → ℕ → List Role → Bool
accepts_of o k word =
    meets (run_by (λ r x. moved_by o.edge k r x o.edges) (o.automaton k).starting word) (o.automaton k).accepting

abbrev pub is_met_of : Opened → ℕ → List (List Role) → Bool
is_met_of o k words = demanded_by (o.automaton k).mark (accepts_of o k) words

abbrev pub meaning_of : (most : ℕ) → Opened → Meaning
meaning_of most o =
    record {
      asks = premises_of most o;
      role = λ c. (o.credential c).role;
      ends = λ c. eqb (o.credential c).kind 1;
      demands = λ c words. demands_of (is_met_of o) (o.credential c).automaton words;
    }
