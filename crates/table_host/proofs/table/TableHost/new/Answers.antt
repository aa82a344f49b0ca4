use Rattle.std.proofs.Common.{is_some, Option, length, ap, ◌∙◌, rules}
use Rattle.vocabulary.specs.declared.kind.Kind.{Kind}
use Rattle.table_host.specs.TableLaws.{marked}
use Rattle.table_host.proofs.table.TableHost.new.Goals as goal

pub invariant_of-result-clause-decided : goal.invariant_of-result-clause-decided
invariant_of-result-clause-decided c = λ e. search rules

pub invariant_of-result-clause-marked : goal.invariant_of-result-clause-marked
invariant_of-result-clause-marked c = λ e. ap (λ (k : Option Kind). is_some k) (invariant_of-result-clause-decided c e) ∙ marked c.args.records.items (length c.args.bytes.items) e
