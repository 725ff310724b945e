-- Places made of functions.
use Rattle.std.specs.Prelude.{ℕ, Bool, List, Option, Some, None, map, if◌then◌else◌}
use Rattle.std.specs.List.{range_with_len}
use Rattle.stg_net.specs.Graph.{Place}
use Rattle.stg_net.specs.Initial.{weight_list}

-- what a graph's places are made of
pub record Table : Type 0 where
  pub is_live : ℕ → Bool
  pub tokens : ℕ → ℕ
  pub take_weight : ℕ → ℕ → ℕ
  pub give_weight : ℕ → ℕ → ℕ

-- the place of that number, where it is live
abbrev pub table_place : ℕ → Table → ℕ → Option Place
table_place transitions x p = if x.is_live p then Some
    (record {
      tokens = x.tokens p;
      taken = weight_list transitions (λ t. x.take_weight t p);
      given = weight_list transitions (λ t. x.give_weight t p);
    }) else None

-- so many places
abbrev pub table_places : ℕ → ℕ → Table → List (Option Place)
table_places places transitions x = map (table_place transitions x) (range_with_len 0 places)
