-- A part of an HVM guest that a chunk or the tail sets leaves the guest on its way.
use Rattle.mig_guest.specs.PartCodes.{row_of}
use Rattle.mig_legacy.proofs.Common.{◌≡◌, ℕ, ◌<◌, ◌≤◌, true, false, List, length, refl, sym, ap, subst, ◌∙◌, arith, le-leb, lt-ltb, and_from, AreBytes, Kind, Hvm, IsPart, IsCut, is_policy, is_emulator_code, width_of, GuestOf, context_key, p2m_key, PartKey, part_total, part_exact, GrewByRecord, param_key, tsc_key, most_policy_entries, vcpu_limit, most_body, eqb-false, is_part, nat_eq}
use Rattle.std.specs.FinMap as maps
use Rattle.mig_guest.specs.declared.part_code.PartCode.TheVariants.{Tsc, HvmContext, HvmParam}
use Rattle.mig_guest.proofs.Counts.{same_parts}
use Rattle.mig_guest.proofs.Found.{insert_holds}
use Rattle.mig_guest.proofs.PartSets.{put_other}

pub part_grows : (g h : GuestOf) (key : PartKey) (bytes : List ℕ) → is_policy key.code ≡ false → is_emulator_code key.code ≡ false → nat_eq 3 key.code ≡ false → IsPart g.kind (width_of g) key bytes → AreBytes bytes → h ≡ record g { parts = maps.insert g.parts key bytes } → GrewByRecord g h
part_grows g h key bytes no_policy no_emulator no_list part are now = subst (GrewByRecord g) (sym now) (record {
  kind = refl;
  kept = λ begun. record {
    formed = record {
      top = begun.formed.top;
      frames = begun.formed.frames;
      parts = insert_holds part_total part_exact (IsPart g.kind (width_of g)) g.parts key bytes begun.formed.parts part;
      policies = λ code one. subst (λ l. length l ≤ most_policy_entries) (sym (same_parts code (maps.insert g.parts key bytes) g.parts (λ q of. put_other g.parts (key, bytes) q (λ e. let no : false ≡ true = sym no_policy ∙ ap is_policy (sym e ∙ of) ∙ one in cc)))) (begun.formed.policies code one);
    };
    plain = insert_holds part_total part_exact (λ k b. is_emulator_code k.code ≡ false) g.parts key bytes begun.plain no_emulator;
    start = λ none. begun.start (sym (put_other g.parts (key, bytes) p2m_key (eqb-false 3 key.code no_list)) ∙ none);
    bytes = record { pages = begun.bytes.pages; parts = insert_holds part_total part_exact (λ k b. AreBytes b) g.parts key bytes begun.bytes.parts are };
  };
})

-- ---- the parts

pub param_part : (kind : Kind) (width index : ℕ) (bytes : List ℕ) → kind ≡ Hvm → index < vcpu_limit → length bytes ≡ 8 → IsPart kind width (param_key index) bytes
param_part kind width index bytes hvm small len =
    is_part HvmParam kind width (ap (row_of HvmParam).of_kind hvm) (param_key index) bytes refl (and_from _ _ (lt-ltb index vcpu_limit small) refl) (omega (arith, small), omega arith) (rw len refl) tt

pub tsc_part : (kind : Kind) (width : ℕ) (bytes : List ℕ) → kind ≡ Hvm → length bytes ≡ 20 → IsPart kind width tsc_key bytes
tsc_part kind width bytes hvm len = is_part Tsc kind width (ap (row_of Tsc).of_kind hvm) tsc_key bytes refl refl (omega arith, omega arith) (rw len refl) tt

pub context_part : (kind : Kind) (width : ℕ) (bytes : List ℕ) → kind ≡ Hvm → length bytes ≤ most_body → IsCut bytes → IsPart kind width context_key bytes
context_part kind width bytes hvm small cut = is_part HvmContext kind width (ap (row_of HvmContext).of_kind hvm) context_key bytes refl refl (omega arith, omega arith) (le-leb (length bytes) most_body small) cut
