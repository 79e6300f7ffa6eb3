use Rattle.scmi_modes.proofs.session.Session.shut.Goals as goal

pub close-shut-requires-after_bounds : goal.close-shut-requires-after_bounds
close-shut-requires-after_bounds g c κs within =
    rw (c.deref.ensures.value) c.self.invariant.platform_ends
