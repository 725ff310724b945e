use Rattle.std.proofs.Common.{◌≡◌, ◌∙◌, ℕ, get_or}
use Rattle.std.proofs.lemmas.Result.{IfOk-weaker}
use Rattle.stg_net.specs.Graph.{tokens_at}
use Rattle.stg_net.specs.Initial.{graph_of}
use Rattle.stg_token.proofs.Passes.{start_tokens}
use Rattle.stg_token.proofs.game.start.Goals as goal

pub returns-clause-initial : goal.returns-clause-initial
returns-clause-initial c =
    IfOk-weaker c.from_slice.result (λ m. m ≡ c.tokens.result.now) (λ m. (p : ℕ) → get_or m p 0 ≡ tokens_at (graph_of c.args.net.now) p)
    (λ m same. start_tokens c.args.net.now m (same ∙ c.tokens.ensures.tokens)) c.from_slice.ensures
