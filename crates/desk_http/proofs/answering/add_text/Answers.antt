use Rattle.std.proofs.Common.{◌≡◌, rules}
use Rattle.desk_http.specs.Answering.{json}
use Rattle.desk_http.specs.Making.{Makes}
use Rattle.desk_http.specs.declared.making.Made.TheVariants as made
use Rattle.desk_http.proofs.GivenLemmas.{given_added, given_parts}
use Rattle.desk_http.proofs.answering.add_text.Goals as goal

pub returns-in-Parts-clause-given : goal.returns-in-Parts-clause-given
returns-in-Parts-clause-given g c =
    let makes : Makes c.args.text (made.Parts c.in-Parts.parts) = search rules in
    given_parts c.args.name c.args.text c.in-Parts.parts c.add_parts.result makes c.add_parts.ensures.given

pub returns-in_ok-json-in-Refused-clause-given : goal.returns-in_ok-json-in-Refused-clause-given
returns-in_ok-json-in-Refused-clause-given g c =
    let makes : Makes c.args.text (made.Refused c.in-Refused.body) = search rules in
    let is : c.in_ok-json-in-Refused.field-0 ≡ json 422 c.in-Refused.body = search rules in
    given_added c.args.name c.args.text (made.Refused c.in-Refused.body) c.in_ok-json-in-Refused.field-0 makes is

pub returns-in_ok-json-in-Refused-clause-adds : goal.returns-in_ok-json-in-Refused-clause-adds
returns-in_ok-json-in-Refused-clause-adds g c =
    let makes : Makes c.args.text (made.Refused c.in-Refused.body) = search rules in
    let is : c.in_ok-json-in-Refused.field-0 ≡ json 422 c.in-Refused.body = search rules in
    (made.Refused c.in-Refused.body, makes, λ projects told. (is, told))
