use Rattle.std.proofs.Common.{None, ap, ◌∙◌, arith}
use Rattle.nodes.specs.declared.node.Plan.{Plan}
use Rattle.shown_links.specs.Linking.{first_shown}
use Rattle.shown_links.proofs.Kept.{parents_kept, same_cleared, same_length, same_line}
use Rattle.shown_links.proofs.Marked.{bare_marked, behind_marked, no_line_marked, some_marked}
use Rattle.shown_links.proofs.Joined.{joined}
use Rattle.shown_links.proofs.Heads.{shown_linked}
use Rattle.shown_links.proofs.links.link.Goals as goal

pub gather-requires-clause-some : goal.gather-requires-clause-some
gather-requires-clause-some c = some_marked c.args.nodes.now c.requires.marked

pub gather-requires-clause-parents : goal.gather-requires-clause-parents
gather-requires-clause-parents c = behind_marked c.args.nodes.now c.requires.marked

pub gather-requires-clause-unlinked : goal.gather-requires-clause-unlinked
gather-requires-clause-unlinked c = bare_marked c.args.nodes.now c.requires.marked

pub follow-requires-clause-some : goal.follow-requires-clause-some
follow-requires-clause-some c =
    let some = some_marked c.args.nodes.now c.requires.marked in
    let long = same_length c.args.nodes.now c.gather.new.nodes c.gather.ensures.same in
    omega arith

pub follow-requires-clause-parents : goal.follow-requires-clause-parents
follow-requires-clause-parents c = parents_kept c.args.nodes.now c.gather.new.nodes c.gather.ensures.same (behind_marked c.args.nodes.now c.requires.marked)

pub bounds-nodes-0 : goal.bounds-nodes-0
bounds-nodes-0 c =
    let some = some_marked c.args.nodes.now c.requires.marked in
    let long = same_length c.args.nodes.now c.gather.new.nodes c.gather.ensures.same in
    let longer = same_length c.gather.new.nodes c.follow.new.nodes c.follow.ensures.same in
    omega arith

pub returns-clause-links : goal.returns-clause-links
returns-clause-links c = λ h t q.
    shown_linked h t c.args.nodes.now q c.follow.new.nodes (joined _ c.gather.new.nodes _ c.gather.ensures c.follow.ensures) c.first_shown.result
    (c.first_shown.ensures ∙ ap (λ (p : Plan). first_shown p.marker p.first 0 None) c.plan_in.ensures)

pub returns-clause-rest : goal.returns-clause-rest
returns-clause-rest c = c.follow.ensures.same ∙ c.gather.ensures.same

pub returns-clause-same : goal.returns-clause-same
returns-clause-same c = same_cleared c.args.nodes.now c.follow.new.nodes (c.follow.ensures.same ∙ c.gather.ensures.same)

pub returns-clause-unplanned : goal.returns-clause-unplanned
returns-clause-unplanned c = λ i.
    same_line c.args.nodes.now c.follow.new.nodes (c.follow.ensures.same ∙ c.gather.ensures.same) i ∙ no_line_marked c.args.nodes.now c.requires.marked i
