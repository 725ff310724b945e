use Rattle.std.proofs.Common.{subst, sym, refl}
use Rattle.matchit.proofs.OnLiterals.{matchit_on_literals}
use Rattle.desk_http.specs.Routes.{IsRoutes}
use Rattle.desk_http.proofs.Walking.{has_routes}
use Rattle.desk_http.proofs.routes.routes.Goals as goal

pub returns : goal.returns
unfolding matchit_on_literals
returns c =
    let rows = rw (c.in_ok-insert-2.ensures.1, c.in_ok-insert.ensures.1, c.new-router.ensures) at c.in_ok-insert-3.ensures.1 in
    subst IsRoutes (sym rows) (has_routes _ _ _ refl refl refl)
