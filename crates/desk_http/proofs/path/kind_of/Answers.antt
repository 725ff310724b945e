use Rattle.std.proofs.Common.{List, ℕ, ap, ◌∙◌}
use Rattle.desk_http.specs.Routes.{kind_at}
use Rattle.desk_http.proofs.PathLemmas.{plain_bytes}
use Rattle.desk_http.proofs.path.kind_of.Goals as goal

pub returns-in-Ok : goal.returns-in-Ok
returns-in-Ok c =
    c.kind_at.ensures
    ∙ ap (λ (path : List ℕ). kind_at c.args.router.now path) c.in-Ok.ensures.cases.0
    ∙ c.requires.routes c.args.target.now (plain_bytes c.args.target.now (λ k. (c.type_inv.target k).fits))
