use Rattle.std.proofs.Common.{◌≡◌, ◌^◌, ◌<◌, drop}
use Rattle.desk_http.specs.Fields.{number_from}
use Rattle.desk_http.proofs.fields.number_of.Given as goal

abbrev pub invariant-loop-byte : goal.invariant-loop-byte
invariant-loop-byte l = record {
  whole : number_from l.number (drop l.byte-index l.text) ≡ number_from 0 l.text;
  small : l.number < 10 ^ l.byte-index;
}
