use Rattle.std.proofs.Common.{◌≡◌, ◌≤◌, ℕ, List, ◌++◌, take, drop, length, subst, sym, ap, ◌∙◌, arith, take-add, ◌+◌, []}
use Rattle.std.proofs.lemmas.List.{append-nil, length-take}
use Rattle.httparse.specs.Spans.{RequestOverflows}
use Rattle.desk_http.specs.inner.Wire.{HasRead}
use Rattle.desk_http.proofs.ReadLemmas.{never_head, full_head, ended_head, short_take, HasRead-append}
use Rattle.desk_http.proofs.head.read_head.Goals as goal

pub returns-in-Never-clause-found : goal.returns-in-Never-clause-found
returns-in-Never-clause-found g c =
    let a : List ℕ = take c.loop-spans.len c.loop-spans.buf in
    let short : length a ≤ 8192 = omega (arith, short_take c.loop-spans.len c.loop-spans.buf, c.loop-spans.invariant.inside, c.loop-spans.auto.buf, c.requires.buf) in
    let room : length c.parse.new.headers ≡ 64 = omega (arith, c.parse.auto.headers, c.loop-spans.auto.headers, c.requires.headers) in
    never_head a _ _ short c.loop-spans.invariant.read (subst (λ (n : ℕ). RequestOverflows n a) room c.in-Never.ensures)

pub returns-then-len-buf-clause-found : goal.returns-then-len-buf-clause-found
returns-then-len-buf-clause-found g c =
    let a : List ℕ = take c.loop-spans.len c.loop-spans.buf in
    let full : length a ≡ 8192 = omega (arith, length-take c.loop-spans.len c.loop-spans.buf, c.if-len-buf.true, c.loop-spans.auto.buf, c.requires.buf) in
    full_head a _ _ full c.loop-spans.invariant.read c.in-Partly.ensures

pub returns-then-count-eq0-clause-found : goal.returns-then-count-eq0-clause-found
returns-then-count-eq0-clause-found g c =
    let a : List ℕ = take c.loop-spans.len c.loop-spans.buf in
    let short : length a ≤ 8192 = omega (arith, short_take c.loop-spans.len c.loop-spans.buf, c.loop-spans.invariant.inside, c.loop-spans.auto.buf, c.requires.buf) in
    let nothing = rw (c.if-count-eq0.true) at c.in_ok-count.ensures.read in
    let read = HasRead-append a [] _ _ _ c.loop-spans.invariant.read nothing in
    ended_head a _ _ short (subst (λ (t : List ℕ). HasRead t (g.L.Link.seen c.args.link.now).left (g.L.Link.seen c.read_more.new.link).left) (append-nil a) read) (c.in_ok-count.ensures.end c.if-count-eq0.true) c.in-Partly.ensures

pub loop-spans-preserved : goal.loop-spans-preserved
loop-spans-preserved g c =
    let l = c.loop-spans in
    let more : List ℕ = take c.in_ok-count.count (drop l.len c.read_more.new.buf) in
    let same : take (l.len + c.in_ok-count.count) c.read_more.new.buf ≡ take l.len l.buf ++ more = take-add l.len c.in_ok-count.count c.read_more.new.buf ∙ ap (λ (t : List ℕ). t ++ more) c.in_ok-count.ensures.kept in
    record {
      read = subst (λ (t : List ℕ). HasRead t (g.L.Link.seen c.args.link.now).left (g.L.Link.seen c.read_more.new.link).left) (sym same) (HasRead-append (take l.len l.buf) more _ _ _ l.invariant.read c.in_ok-count.ensures.read);
      inside = omega (arith, c.in_ok-count.ensures.within, c.read_more.auto.buf, l.invariant.inside);
      written = c.in_ok-count.ensures.written ∙ l.invariant.written;
      broken = c.in_ok-count.ensures.broken ∙ l.invariant.broken;
      later = omega (arith, c.in_ok-count.ensures.cause.later, l.invariant.later);
    }
