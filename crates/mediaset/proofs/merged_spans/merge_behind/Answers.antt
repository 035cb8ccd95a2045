use Rattle.mediaset.proofs.merged_spans.merge_behind.Goals as goal

pub take-requires-clause-next : goal.take-requires-clause-next
take-requires-clause-next c = c.requires.later c.loop-span.span-index _ c.loop-span-test.true
