use mathlib.Core.Logic.{∥∥₁_map}
use Rattle.std.proofs.Common.{arith}
use Rattle.prints.proofs.LineLists.{line_there, put_all, put_more}
use Rattle.prints.proofs.Refused.{refused}
use Rattle.prints.proofs.lines.put_lines.Goals as goal

pub put_line-requires : goal.put_line-requires
put_line-requires g c =
    let less = c.loop-index-test.true in
    ∥∥₁_map c.requires (λ r. let l = line_there c.args.nodes.now c.args.count c.loop-index.index r.0 r.1 (omega arith) in (l.0, l.2))

pub returns-in_err-at : goal.returns-in_err-at
returns-in_err-at g c = λ xs p.
    let less = c.loop-index-test.true in
    let l = line_there c.args.nodes.now c.args.count c.loop-index.index xs p (omega arith) in
    refused _ _ 0 c.args.out.now c.put_line.new.out c.from_residual.result c.from_residual.ensures.0 (c.in_err-at.ensures l.0 l.2)

pub loop-index-preserved : goal.loop-index-preserved
loop-index-preserved g c = λ xs p.
    let less = c.loop-index-test.true in
    put_more c.args.nodes.now (g.H.Host.errors c.args.host.now) c.args.count c.loop-index.index xs p (omega arith) _ _ _ _ _ (c.loop-index.invariant xs p) (λ x q. c.in_ok-at.ensures x q)

pub returns : goal.returns
returns g c = λ xs p.
    let end = c.loop-index-test.false in
    put_all c.args.nodes.now (g.H.Host.errors c.args.host.now) c.args.count c.loop-index.index xs p (omega arith) _ _ _ (c.loop-index.invariant xs p)
