use Rattle.std.proofs.Common.{◌≡◌, ◌≤◌, ℕ, List, ◌++◌, take, drop, length, sym, ap, ◌∙◌, arith}
use Rattle.desk_http.specs.Asking.{with_rest, no_head}
use Rattle.desk_http.proofs.AskLemmas.{asks_of, none_found, map_ok}
use Rattle.desk_http.proofs.ReadLemmas.{short_take}
use Rattle.desk_http.proofs.asking.ask.Goals as goal

pub returns-in_default-clause-asked : goal.returns-in_default-clause-asked
returns-in_default-clause-asked g c = λ input told.
    no_head (none_found c.read_head.new.buf c.read_head.new.headers _ _ c.in_ok-front.field-0 c.in_default.not-Some c.in_ok-front.ensures.found input told)

pub returns-in-Now-clause-asked : goal.returns-in-Now-clause-asked
returns-in-Now-clause-asked g c = λ input told.
    let a : List ℕ = take c.in-Some.front.len c.read_head.new.buf in
    let found = rw (c.in-Some.is) at c.in_ok-front.ensures.found in
    let short : length a ≤ 8192 = omega (arith, short_take c.in-Some.front.len c.read_head.new.buf, found.0, c.read_head.auto.buf, c.requires.buf) in
    let room : length c.read_head.new.headers ≡ 64 = omega (arith, c.read_head.auto.headers, c.requires.headers) in
    asks_of a c.read_head.new.headers c.in-Some.front.spans c.in_ok-asked.field-0 c.in-Now.asked _ _ found.1 short room found.2 c.in_ok-asked.ensures.wanted
    (λ rest left. sym (ap (with_rest (drop c.in-Some.front.spans.len a ++ rest)) c.in-Now.is)) input told

pub returns-in_ok-text-in-Body-clause-asked : goal.returns-in_ok-text-in-Body-clause-asked
returns-in_ok-text-in-Body-clause-asked g c =
    let a : List ℕ = take c.in-Some.front.len c.read_head.new.buf in
    let found = rw (c.in-Some.is) at c.in_ok-front.ensures.found in
    let short : length a ≤ 8192 = omega (arith, short_take c.in-Some.front.len c.read_head.new.buf, found.0, c.read_head.auto.buf, c.requires.buf) in
    let room : length c.read_head.new.headers ≡ 64 = omega (arith, c.read_head.auto.headers, c.requires.headers) in
    let text : c.in_ok-text-in-Body.text ≡ take c.in-Body.count (drop c.in-Some.front.spans.len a) = c.in_ok-text-in-Body.ensures ∙ ap (take c.in-Body.count) c.behind-rest.ensures in
    map_ok c.put_with.result (λ x same input told.
    asks_of a c.read_head.new.headers c.in-Some.front.spans c.in_ok-asked.field-0 x _ _ found.1 short room found.2 c.in_ok-asked.ensures.wanted
    (λ rest left. same (drop c.in-Some.front.spans.len a) rest text left ∙ ap (with_rest (drop c.in-Some.front.spans.len a ++ rest)) (sym c.in-Body.is)) input told)
    c.put_with.ensures.asked
