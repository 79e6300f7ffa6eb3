use Rattle.scmi_modes.proofs.session.Session.flush.Goals as goal

pub flush-requires-after_bounds : goal.flush-requires-after_bounds
flush-requires-after_bounds g c κs within =
    rw (c.deref.ensures.value) c.self.invariant.platform_ends
