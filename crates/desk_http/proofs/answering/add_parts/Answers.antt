use Rattle.std.proofs.Common.{inl, rules}
use Rattle.desk_http.proofs.answering.add_parts.Goals as goal

pub returns-then-branch-clause-given : goal.returns-then-branch-clause-given
returns-then-branch-clause-given g c = inl (search rules)
