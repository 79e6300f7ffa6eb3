use Rattle.scmi_tests.proofs.probe.session.Session.serve.Goals as goal

pub serve-requires-after_bounds : goal.serve-requires-after_bounds
serve-requires-after_bounds g c κs within =
    rw (c.deref.ensures.value) c.self.invariant.platform_ends
