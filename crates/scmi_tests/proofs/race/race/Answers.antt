use Rattle.scmi_tests.proofs.race.race.Goals as goal

pub run_beside-controller-requires-clause-links : goal.run_beside-controller-requires-clause-links
run_beside-controller-requires-clause-links g c κs within =
    rw c.deref.ensures.value c.in-Ok.ensures.links

pub run_beside-controller-requires-clause-agents : goal.run_beside-controller-requires-clause-agents
run_beside-controller-requires-clause-agents g c κs within =
    rw c.deref.ensures.value c.in-Ok.ensures.ends

pub retire-requires-clause-links : goal.retire-requires-clause-links
retire-requires-clause-links g c κs within =
    rw (← c.deref.ensures.value) c.run_beside-controller.ensures.links

pub retire-requires-clause-ends : goal.retire-requires-clause-ends
retire-requires-clause-ends g c κs within =
    rw (← c.deref.ensures.value) c.run_beside-controller.ensures.agents
