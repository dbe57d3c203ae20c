-- What stands behind the frames closes a stream, and is what the view of a sound host has there.
use Rattle.mig_dirtysave_parts.proofs.Common.{◌≡◌, ◌++◌, refl, sym, ap, subst, ◌∙◌, AllByRecursion, Appends, GuestOf, HostOf, IsValid, Record, text_of, last_records, is_setting, kept_parts, parts_alone, IsContextFront, closing_records, settings_seen, IsOtherRecord, ClosesStream}
use Rattle.std.proofs.Common.{ℕ, List, [], ◌∷◌, Option}
use Rattle.mig_headers.specs.declared.kind.Kind.TheVariants.{Pv, Hvm}
use Rattle.mig_guest.specs.Formed.{IsFormed}
use Rattle.mig_host_view.proofs.HostViews.{hvm_viewed}
use Rattle.mig_dirtysave_parts.proofs.Codes.{IsOther, are_within, closing_within, front_short, kept_formed, last_seen, no_pv}
use Rattle.mig_dirtysave_parts.proofs.PvSettings.{pv_last_seen, pv_last_within}

pub others_are : (rs : List Record) → AllByRecursion IsOther rs → AllByRecursion IsOtherRecord rs
others_are [] p = tt
others_are (r ∷ rs) p = (record { no_pages = p.0.1.0; no_verify = p.0.1.1; no_end = p.0.0.no_end }, others_are rs p.1)

-- ---- behind the frames of an HVM host

module _ (h : HostOf) (valid : IsValid h) (hvm : h.kind ≡ Hvm) (front : List ℕ) (f : IsContextFront h.parts front) where
  abbrev settings : GuestOf
  settings = parts_alone h.kind h.width (kept_parts is_setting h.parts)

  formed : IsFormed settings
  formed = kept_formed h valid is_setting refl (no_pv h is_setting hvm)

  pub hvm_closes : (g : GuestOf) (old new : Option (List ℕ)) → g ≡ settings → Appends old new (text_of (closing_records g front ++ (0, []) ∷ [])) → ClosesStream h old new
  hvm_closes g old new is a = record {
    behind = closing_records settings front;
    others = others_are (closing_records settings front) (closing_within settings formed front (front_short h valid front f));
    within = are_within (closing_records settings front) (closing_within settings formed front (front_short h valid front f));
    seen = λ _. sym ((λ i. last_records (hvm i) (hvm_viewed h hvm i)) ∙ last_seen h valid front f);
    appended = subst (λ (k : GuestOf). Appends old new (text_of (closing_records k front ++ (0, []) ∷ []))) is a;
  }

-- ---- behind the frames of a PV host

pub pv_closes : (h : HostOf) → h.kind ≡ Pv → (g : GuestOf) (old new : Option (List ℕ)) → IsFormed g → g ≡ settings_seen h → Appends old new (text_of (last_records Pv g ++ (0, []) ∷ [])) → ClosesStream h old new
pv_closes h pv g old new formed is a = record {
  behind = last_records Pv g;
  others = others_are (last_records Pv g) (pv_last_within g formed);
  within = are_within (last_records Pv g) (pv_last_within g formed);
  seen = λ _. ap (last_records Pv) is ∙ pv_last_seen h pv;
  appended = a;
}
