-- What stands among records once one more is there.
use Rattle.mig_libxl_form.proofs.Common.{◌≡◌, false, List, [], ◌∷◌, ◌++◌, nat_eq, Option, Some, None, ap, ◌∙◌, arith, ◌||◌, option_or, common_steps, ImageOf, LibxlRecord, is_libxl_ended, image_in, image_among, fold-append, EmulatorsOf, no_emulators, put_libxl_content, has_emulator, or_none}
use Rattle.std.proofs.lemmas.List.Folds.{list_any-append}
use Rattle.mig_libxl_form.specs.Emulators.{emulators_of}

pub ended_more : (records : List LibxlRecord) (r : LibxlRecord) → is_libxl_ended records ≡ false → is_libxl_ended (records ++ r ∷ []) ≡ nat_eq r.type 0
ended_more records r going = list_any-append (λ (x : LibxlRecord). nat_eq x.type 0) records (r ∷ []) ∙ ap (λ b. b || (nat_eq r.type 0 || false)) going ∙ grind (arith, common_steps)

pub emulator_more : (records : List LibxlRecord) (r : LibxlRecord) → has_emulator (records ++ r ∷ []) ≡ (has_emulator records || (nat_eq r.type 2 || nat_eq r.type 3))
emulator_more records r = list_any-append (λ (x : LibxlRecord). nat_eq x.type 2 || nat_eq x.type 3) records (r ∷ []) ∙ grind (arith, common_steps)

-- what the records say of emulators
pub emulators_more : (records : List LibxlRecord) (r : LibxlRecord) → emulators_of (records ++ r ∷ []) ≡ put_libxl_content (emulators_of records) r.content
unfolding emulators_of
emulators_more records r = fold-append (λ (e : EmulatorsOf) (x : LibxlRecord). put_libxl_content e x.content) no_emulators records (r ∷ [])

kept : (o found all : Option ImageOf) (image : ImageOf) → (found ≡ Some image → all ≡ Some image) → option_or o found ≡ Some image → option_or o all ≡ Some image
kept (Some i) found all image go is = is
kept None found all image go is = go is

-- an image that is there stays
pub among_more : (records more : List LibxlRecord) (image : ImageOf) → image_among records ≡ Some image → image_among (records ++ more) ≡ Some image
among_more [] more image is = let no : ◌≡◌ {A = Option ImageOf} None (Some image) = is in cc
among_more (r ∷ rs) more image is = kept (image_in r.content) (image_among rs) (image_among (rs ++ more)) image (among_more rs more image) is

added : (o found all last : Option ImageOf) → (found ≡ None → all ≡ last) → option_or o found ≡ None → option_or o all ≡ last
added None found all last go is = go is
added (Some i) found all last go is = let no : ◌≡◌ {A = Option ImageOf} (Some i) None = is in cc

-- and where there is none, that of the record that is added is there
pub among_first : (records : List LibxlRecord) (r : LibxlRecord) → image_among records ≡ None → image_among (records ++ r ∷ []) ≡ image_in r.content
among_first [] r is = or_none (image_in r.content)
among_first (q ∷ rs) r is = added (image_in q.content) (image_among rs) (image_among (rs ++ r ∷ [])) (image_in r.content) (among_first rs r) is
