-- The settings that are held of a paused PV host become those of the guest that it is seen as.
use Rattle.mig_dirtysave.proofs.Common.{HostOf, with_view, is_setting, kept_parts, parts_alone, settings_seen}
use Rattle.mig_host_view.proofs.Common.{◌≡◌, ap, ◌∙◌, Pv, GuestOf}
use Rattle.mig_dirtysave.proofs.HeldParts.{kept_are_seen}

-- the settings are refreshed, and those of the host become those of its view
pub settings_are : (h : HostOf) → h.kind ≡ Pv → (g k : GuestOf) → g ≡ parts_alone h.kind h.width (kept_parts is_setting h.parts) → k ≡ with_view h g → k ≡ settings_seen h
settings_are h pv g k fresh seen =
    seen ∙ ap (λ (s : GuestOf). record s { parts = (with_view h g).parts }) fresh
    ∙ ap (parts_alone h.kind h.width) (kept_are_seen h g is_setting (ap (λ (s : GuestOf). s.parts) fresh) pv)
