use Rattle.std.proofs.Common.{◌∙◌, map}
use Rattle.astg_read.specs.inner.Views.{place_view}
use Rattle.astg_read.proofs.ReadyLemmas.{next-first, next-ready, next-arcs}
use Rattle.astg_read.proofs.finish.add_arcs.Goals as goal

pub add_text_arc-requires : goal.add_text_arc-requires
add_text_arc-requires c =
    next-first c.loop-ends.builder c.args.trans.now.keys (map place_view c.args.places.now.keys) c.in-Some.ends c.in-Some.weight c.next.new.self c.loop-ends.ends-iterator c.in-Some.ensures.steps c.loop-ends.invariant.ready

pub loop-ends-preserved : goal.loop-ends-preserved
loop-ends-preserved c =
    let ts = c.args.trans.now.keys in let ps = map place_view c.args.places.now.keys in
    record {
      ready = next-ready c.loop-ends.builder c.add_text_arc.new.builder ts ps c.in-Some.ends c.in-Some.weight c.next.new.self c.loop-ends.ends-iterator c.in-Some.ensures.steps c.in_ok-add_text_arc.ensures c.loop-ends.invariant.ready;
      so_far = next-arcs c.loop-ends.builder c.add_text_arc.new.builder ts ps c.in-Some.ends c.in-Some.weight c.next.new.self c.loop-ends.ends-iterator c.in-Some.ensures.steps c.in_ok-add_text_arc.ensures ∙ c.loop-ends.invariant.so_far;
    }
