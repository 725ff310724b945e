use Rattle.std.proofs.Common.{length}
use Rattle.desk_http.proofs.fields.+length_by.Given as goal

abbrev pub decreases-length_by : goal.decreases-length_by
decreases-length_by l = length l.headers.now
