use Rattle.std.proofs.Common.{drop, length, sym, ◌∙◌}
use Rattle.std.proofs.lemmas.List.{take_at}
use Rattle.readings.specs.Readings.{class_of, verdict_of}
use Rattle.vocabulary.specs.Policy.{standard}
use Rattle.vocabulary.specs.declared.policy.StandardPolicy.TheVariants.{CanRetry, CanRetryLenient}
use Rattle.runs.proofs.Readings.{given_is, given_ok, live, ok_same, there}
use Rattle.runs.proofs.reading.read.Goals as goal

pub unwrap-requires : goal.unwrap-requires
unwrap-requires g c = given_ok (g.H.Host.errors c.args.host.now) c.args.store.now c.args.report.now (class_of (g.H.Host.errors c.args.host.now)) _ c.dominant_class.ensures.reached c.requires

pub returns : goal.returns
returns g c = λ t w.
    let h = g.H.Host.errors c.args.host.now in
    let s = c.args.store.now in
    let x = c.args.report.now in
    let law = g.met.H.Host.lawful c.args.host.now in
    let whole = c.deref_mut.ensures.value ∙ c.in_ok-nodes.ensures t w in
    let nodes = take_at c.tree_of.new.nodes (drop (length c.tree_of.new.nodes) c.in_ok-nodes.nodes.items) c.in_ok-nodes.nodes.len (c.tree_of.auto.nodes ∙ c.deref_mut.ensures.len) ∙ c.tree_of.ensures.nodes t w whole ∙ whole in
    let live = live h s x _ law t w in
    record {
      nodes = nodes;
      class = ok_same (sym c.unwrap.ensures ∙ given_is h s x (class_of h) _ c.dominant_class.ensures.reached t w);
      retry = ok_same (sym c.unwrap-2.ensures ∙ given_is h s x (verdict_of h (g.P.Policy.accepted c.args.policy.now)) _ c.retry.ensures.reached t w);
      can_retry = ok_same (sym c.unwrap-3.ensures ∙ given_is h s x (verdict_of h (standard CanRetry)) _ c.can_retry.ensures.reached t w);
      can_retry_lenient = ok_same (sym c.unwrap-4.ensures ∙ given_is h s x (verdict_of h (standard CanRetryLenient)) _ c.can_retry_lenient.ensures.reached t w);
      cause = c.probable_cause.ensures.stands t _ (there h s x _ (g.met.H.Host.lawful c.args.host.now) t w) c.unwrap-5.ensures;
      tree = c.in_ok-tree.ensures.print t w whole;
      chain = c.in_ok-chain.ensures t (record { live = live; lists = sym (c.deref.ensures.value ∙ nodes) });
      inline = c.in_ok-inline.ensures t (record { live = live; lists = sym (c.deref-2.ensures.value ∙ nodes) });
    }
