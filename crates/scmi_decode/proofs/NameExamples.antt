-- The names of protocols and of the notification.
use Rattle.std.proofs.Common.{◌≡◌, [], ◌∷◌, map, codes, Some, refl}
use Rattle.scmi_decode.specs.Names.{notification_text, protocol_text}

protocols : map protocol_text (0x10 ∷ 0x11 ∷ 0x14 ∷ [])
    ≡ Some (codes "base") ∷ Some (codes "power") ∷ Some (codes "clock") ∷ []
protocols = refl

changed : notification_text 0x11 0 ≡ Some (codes "POWER_STATE_CHANGED")
changed = refl
