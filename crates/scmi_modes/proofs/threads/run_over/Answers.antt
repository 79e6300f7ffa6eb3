use Rattle.scmi_modes.proofs.threads.run_over.Goals as goal

pub returns-in-Rings-clause-limit : goal.returns-in-Rings-clause-limit
returns-in-Rings-clause-limit g c = λ limit. rw c.in-Rings.is (c.write_run.ensures.limit limit)

pub returns-in-Words-clause-limit : goal.returns-in-Words-clause-limit
returns-in-Words-clause-limit g c =
    λ limit. rw c.in-Words.is (c.write_run-in-Words.ensures.limit limit)
