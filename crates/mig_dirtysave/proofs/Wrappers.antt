-- What is written around the image where the write stops: whole records of emulators, and a part of one more.
use Rattle.mig_dirtysave.proofs.Common.{◌≡◌, ℕ, ◌+◌, ◌-◌, ◌<◌, Bool, true, false, List, [], ◌∷◌, ◌++◌, length, map, take, Option, Some, None, refl, sym, ap, subst, ◌∙◌, arith, length-append, ◌⊎◌, inl, inr, ◌==◌, is_some, All, option_map, eqb-true, Appends, append_known, Appends-trans, AppendsPart, PartKey, IsFormed, GuestOf, HostOf, Part, PartMap, spelled, Record, text_of, text_one, has_emulators, wrapper_opening, wrapper_closing, opening_alike, IsRecordWithin, AreRecordsWithin, WroteSome, MachineState, KeepsShape, part_behind, some_records, SaverOf, PreparedFor, or_cases, All-head, All-tail, little_bytes, length-bytes_low_first, is_emulator_code, some_alike, closing_none, closing_some, SameEmulators, emulator_setting}
use Rattle.mig_canon.specs.CanonStream.{emulator_body, emulator_record, emulators_in_order, text_of_emulators}
use Rattle.mig_libxl.proofs.EmulatorParts.{IsEmulatorPart, in_order_holds}
use Rattle.mig_libxl.proofs.EmulatorTexts.{short_emulator}
use Rattle.std.specs.FinMap as maps

-- ---- the records of emulators

abbrev as_record : Part → Record
as_record p = (p.0.code - 256, emulator_body p)

record_is : (p : Part) → spelled (as_record p).0 (as_record p).1 ≡ emulator_record p
unfolding emulator_record
record_is p = refl

texts_are : (ps : List Part) → text_of (map as_record ps) ≡ text_of_emulators ps
texts_are [] = refl
texts_are (p ∷ ps) = (λ i. record_is p i ++ texts_are ps i)

module _ (g : GuestOf) (formed : IsFormed g) where
  one_within : (p : Part) → IsEmulatorPart g.parts p → IsRecordWithin (as_record p)
  one_within p is =
      let short = short_emulator g p.0 p.1 formed is.code is.there in
      let len : length (emulator_body p) ≡ length p.1 + 8 = omega (
        arith,
        length-append (little_bytes 4 p.0.key1) (little_bytes 4 p.0.key2 ++ p.1),
        length-append (little_bytes 4 p.0.key2) p.1,
        length-bytes_low_first 0 4 p.0.key1,
        length-bytes_low_first 0 4 p.0.key2,
      ) in
      let code : (p.0.code ≡ 258) ⊎ (p.0.code ≡ 259) = elim (or_cases (p.0.code == 258) (p.0.code == 259) is.code) [ inl a ↦ inl (eqb-true p.0.code 258 a) | inr b ↦ inr (eqb-true p.0.code 259 b) ] in
      elim code [
        | inl e ↦ record { short = record { type = omega (arith, e); len = omega (arith, len, short) }; no_end = λ zero. omega (arith, e, zero) }
        | inr e ↦ record { short = record { type = omega (arith, e); len = omega (arith, len, short) }; no_end = λ zero. omega (arith, e, zero) }
      ]

  are_emulators : (ps : List Part) → All (IsEmulatorPart g.parts) ps → AreRecordsWithin (map as_record ps)
  are_emulators [] all = tt
  are_emulators (p ∷ ps) all = (one_within p (All-head (IsEmulatorPart g.parts) p ps all), are_emulators ps (All-tail (IsEmulatorPart g.parts) p ps all))

  abbrev behind : List Record
  behind = map as_record (emulators_in_order g.parts)

  within : AreRecordsWithin behind
  within = are_emulators (emulators_in_order g.parts) (in_order_holds g.parts)

  text_is : has_emulators g.parts ≡ true → wrapper_closing g.parts ≡ text_of behind ++ text_of ((0, []) ∷ [])
  text_is some = let texts = sym (texts_are (emulators_in_order g.parts)) in let last = sym (text_one 0 []) in closing_some g.parts some ∙ (λ i. texts i ++ last i)

  module _ (old new : Option (List ℕ)) where
    -- all of them, and a part of END
    ended : (mid : Option (List ℕ)) → Appends old mid (text_of behind) → AppendsPart mid new (text_of ((0, []) ∷ [])) → WroteSome old new behind
    ended mid a (n, less, part) = record {
      next = (0, []);
      short = record { type = omega arith; len = omega arith };
      n = n;
      less = subst (λ l. n < length l) (text_one 0 []) less;
      appended = Appends-trans old mid new (text_of behind) (take n (spelled 0 [])) a (subst (λ l. Appends mid new (take n l)) (text_one 0 []) part);
      within = within;
    }

    cut_by : (b : Bool) → has_emulators g.parts ≡ b → AppendsPart old new (wrapper_closing g.parts) → (has_emulators g.parts ≡ true) × ((rs : List Record) × WroteSome old new rs)
    cut_by false none p = let (n, less, a) = subst (AppendsPart old new) (closing_none g.parts none) p in absurd (omega (arith, less))
    cut_by true some p = (
      some,
      elim (part_behind old new (text_of behind) ((0, []) ∷ []) (subst (AppendsPart old new) (text_is some) p)) [
        | inl part ↦ some_records old new behind within part
        | inr (all, part) ↦ (behind, ended (append_known old (text_of behind)) all part)
      ],
    )

    -- a part of what stands behind an image
    pub closing_cut : AppendsPart old new (wrapper_closing g.parts) → (has_emulators g.parts ≡ true) × ((rs : List Record) × WroteSome old new rs)
    closing_cut p = cut_by (has_emulators g.parts) refl p

-- ---- what stays of the keys of emulators

len_some : (a b : Option (List ℕ)) → option_map (λ (l : List ℕ). length l) a ≡ option_map (λ (l : List ℕ). length l) b → is_some a ≡ is_some b
len_some None None same = refl
len_some (Some x) (Some y) same = refl
len_some None (Some y) same = let no : ◌≡◌ {A = Option ℕ} None (Some (length y)) = same in cc
len_some (Some x) None same = let no : ◌≡◌ {A = Option ℕ} (Some (length x)) None = same in cc

-- the settings that a saver holds have the keys of emulators that the host has
pub opens_as_host : (h : HostOf) (saver : SaverOf) (g : GuestOf) → PreparedFor saver h → g.parts ≡ saver.settings → wrapper_opening g.parts ≡ wrapper_opening h.parts
opens_as_host h saver g made is = opening_alike g.parts h.parts (λ q code.
    ap (λ (m : PartMap). is_some (maps.get m q)) is ∙ sym (len_some (maps.get h.parts q) (maps.get saver.settings q) (made.settings q (emulator_setting q.code code))))

pub begun_as_host : (old start : Option (List ℕ)) (h : HostOf) (saver : SaverOf) (g : GuestOf) → PreparedFor saver h → g.parts ≡ saver.settings → Appends old start (wrapper_opening g.parts) → Appends old start (wrapper_opening h.parts)
begun_as_host old start h saver g made is a = subst (Appends old start) (opens_as_host h saver g made is) a

module _ (s t : MachineState) (same : KeepsShape s t) where
  keys_stay : (q : PartKey) → is_emulator_code q.code ≡ true → is_some (maps.get t.host.parts q) ≡ is_some (maps.get s.host.parts q)
  keys_stay q code = len_some (maps.get t.host.parts q) (maps.get s.host.parts q) (same.shape.lengths q)

  pub opening_stays : wrapper_opening t.host.parts ≡ wrapper_opening s.host.parts
  opening_stays = opening_alike t.host.parts s.host.parts keys_stay

  pub emulators_stay : (g : GuestOf) → SameEmulators t.host.parts g.parts → has_emulators g.parts ≡ has_emulators s.host.parts
  emulators_stay g held = some_alike g.parts s.host.parts (λ q code. ap (λ (o : Option (List ℕ)). is_some o) (sym (held q code)) ∙ keys_stay q code)
