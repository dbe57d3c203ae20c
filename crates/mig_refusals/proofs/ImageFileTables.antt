-- The tables of causes of a guest image have the causes that stand in words.
use Rattle.mig_refusals.proofs.Common.{◌≡◌, inl, inr, ℕ, ◌<◌, List, refl, ap, sym, subst, le32, le64, both_ways, false_from_ne_true, HostOf, ImageCause, GuestImageVersion}
use Rattle.mig_image.specs.GuestImage.{leaves_out, most_width_of}
use Rattle.mig_image.specs.GuestImageForm.{content_causes, frame_causes, host_head_causes, padding_causes, page_causes, part_causes}
use Rattle.mig_image.specs.GuestImageParts.{head_key, head_version}
use Rattle.mig_image.specs.declared.version.GuestImageVersion.TheVariants.{One, Two}
use Rattle.mig_refusals.specs.ImageFileTables.{ImageHeadHas, ImageFrameHas, ImagePageHas, ImagePartHas, ImageContentHas, ImagePaddingHas, ImageTablesSay, most_numbers}
use Rattle.mig_refusals.specs.ImageFileTables.ImageHeadHas.{other_name, other_kind, not_zero, too_wide, wide_for_version, pv_without_width, wide_for_pv, many_frames, more_than_wide}
use Rattle.mig_refusals.specs.ImageFileTables.ImageFrameHas.{high_bits_1, high_bits_2, idle_flag_2, other_type, not_above as frame_not_above, outside, no_machine, large_machine, taken}
use Rattle.mig_refusals.specs.ImageFileTables.ImagePageHas.{all_zeros}
use Rattle.mig_refusals.specs.ImageFileTables.ImagePartHas.{no_row, not_above as part_not_above, many_leaves, many_msrs, other_length}
use Rattle.mig_refusals.specs.ImageFileTables.ImageContentHas.{other_pairs}
use Rattle.mig_refusals.specs.ImageFileTables.ImagePaddingHas.{not_zeros}
use Rattle.mig_refusals.proofs.AnyRow.{AnyRow, any_row, row_any}
use Rattle.mig_refusals.proofs.ImageFileTests.{tests_say}

-- ---- the head

same_most : (version : GuestImageVersion) → most_width_of version ≡ most_numbers version
same_most One = refl
same_most Two = refl

head_words : (widest : ℕ) (head : List ℕ) (c : ImageCause) → AnyRow (host_head_causes widest head) c → ImageHeadHas widest head c
head_words widest head c (inl is) = subst (ImageHeadHas widest head) is.1 (other_name is.0.0 is.0.1)
head_words widest head c (inr (inl is)) = subst (ImageHeadHas widest head) is.1 (other_kind is.0.0 is.0.1)
head_words widest head c (inr (inr (inl is))) = subst (ImageHeadHas widest head) is.1 (not_zero is.0)
head_words widest head c (inr (inr (inr (inl is)))) = subst (ImageHeadHas widest head) is.1 (elim is.0 [
  | inl wide ↦ too_wide wide
  | inr more ↦ elim more [
    | inl wide ↦ wide_for_version (subst (λ n. n < le64 head 16) (same_most (head_version head)) wide)
    | inr pv ↦ elim pv.1 [ inl none ↦ pv_without_width pv.0 none | inr wide ↦ wide_for_pv pv.0 wide ]
  ]
])
head_words widest head c (inr (inr (inr (inr (inl is))))) = subst (ImageHeadHas widest head) is.1 (elim is.0 [ inl many ↦ many_frames many | inr more ↦ more_than_wide more ])
head_words widest head c (inr (inr (inr (inr (inr none))))) = absurd none

head_row : (widest : ℕ) (head : List ℕ) (c : ImageCause) → ImageHeadHas widest head c → AnyRow (host_head_causes widest head) c
head_row widest head _ (other_name one two) = inl ((one, two), refl)
head_row widest head _ (other_kind one two) = inr (inl ((one, two), refl))
head_row widest head _ (not_zero ne) = inr (inr (inl (ne, refl)))
head_row widest head _ (too_wide wide) = inr (inr (inr (inl (inl wide, refl))))
head_row widest head _ (wide_for_version wide) = inr (inr (inr (inl (inr (inl (subst (λ n. n < le64 head 16) (sym (same_most (head_version head))) wide)), refl))))
head_row widest head _ (pv_without_width pv none) = inr (inr (inr (inl (inr (inr (pv, inl none)), refl))))
head_row widest head _ (wide_for_pv pv wide) = inr (inr (inr (inl (inr (inr (pv, inr wide)), refl))))
head_row widest head _ (many_frames many) = inr (inr (inr (inr (inl (inl many, refl)))))
head_row widest head _ (more_than_wide more) = inr (inr (inr (inr (inl (inr more, refl)))))

-- ---- a frame

one_two : Two ≡ One → ⊥
one_two is = both_ways (leaves_out One) refl (sym (ap leaves_out is))

module _ (h : HostOf) (head : List ℕ) where
  abbrev Has : GuestImageVersion → ImageCause → Type 0
  Has version c = ImageFrameHas version h head c

  frame_words : (version : GuestImageVersion) (c : ImageCause) → AnyRow (frame_causes version h head) c → Has version c
  frame_words One c (inl is) = subst (Has One) is.1 (high_bits_1 refl is.0)
  frame_words Two c (inl is) = subst (Has Two) is.1 (elim is.0 [ inl high ↦ high_bits_2 refl high | inr idle ↦ idle_flag_2 refl idle.0 idle.1 ])
  frame_words version c (inr (inl is)) = subst (Has version) is.1 (other_type ((tests_say.other_type version h.kind head).0 (false_from_ne_true _ is.0)))
  frame_words version c (inr (inr (inl is))) = let found = (tests_say.frame_from h _).0 is.0 in subst (Has version) is.1 (frame_not_above found.0 found.1 found.2)
  frame_words version c (inr (inr (inr (inl is)))) = subst (Has version) is.1 (outside is.0)
  frame_words version c (inr (inr (inr (inr (inl is))))) = subst (Has version) is.1 (elim is.0 [ inl none ↦ no_machine none | inr large ↦ large_machine large ])
  frame_words version c (inr (inr (inr (inr (inr (inl is)))))) = let found = (tests_say.machine h (le64 head 8)).0 is.0 in subst (Has version) is.1 (taken found.0 found.1 found.2 found.3)
  frame_words version c (inr (inr (inr (inr (inr (inr none)))))) = absurd none

  frame_row : (version : GuestImageVersion) (c : ImageCause) → Has version c → AnyRow (frame_causes version h head) c
  frame_row One _ (high_bits_1 is high) = inl (high, refl)
  frame_row Two _ (high_bits_1 is high) = absurd (one_two is)
  frame_row One _ (high_bits_2 is high) = absurd (one_two (sym is))
  frame_row Two _ (high_bits_2 is high) = inl (inl high, refl)
  frame_row One _ (idle_flag_2 is flag idle) = absurd (one_two (sym is))
  frame_row Two _ (idle_flag_2 is flag idle) = inl (inr (flag, idle), refl)
  frame_row version _ (other_type other) = inr (inl (both_ways _ ((tests_say.other_type version h.kind head).1 other), refl))
  frame_row version _ (frame_not_above q some le) = inr (inr (inl ((tests_say.frame_from h _).1 (q, some, le), refl)))
  frame_row version _ (outside out) = inr (inr (inr (inl (out, refl))))
  frame_row version _ (no_machine none) = inr (inr (inr (inr (inl (inl none, refl)))))
  frame_row version _ (large_machine large) = inr (inr (inr (inr (inl (inr large, refl)))))
  frame_row version _ (taken q f there is) = inr (inr (inr (inr (inr (inl ((tests_say.machine h (le64 head 8)).1 (q, f, there, is), refl))))))

-- ---- a page

page_words : (version : GuestImageVersion) (pfn : ℕ) (page : List ℕ) (c : ImageCause) → AnyRow (page_causes version pfn page) c → ImagePageHas version pfn page c
page_words One pfn page c (inl is) = absurd (both_ways _ refl is.0.0)
page_words Two pfn page c (inl is) = subst (ImagePageHas Two pfn page) is.1 (all_zeros refl ((tests_say.all_zero page).0 is.0.1))
page_words version pfn page c (inr none) = absurd none

page_row : (version : GuestImageVersion) (pfn : ℕ) (page : List ℕ) (c : ImageCause) → ImagePageHas version pfn page c → AnyRow (page_causes version pfn page) c
page_row version pfn page _ (all_zeros two zeros) = inl ((ap leaves_out two, (tests_say.all_zero page).1 zeros), refl)

-- ---- a part

part_words : (h : HostOf) (head : List ℕ) (c : ImageCause) → AnyRow (part_causes h head) c → ImagePartHas h head c
part_words h head c (inl is) = subst (ImagePartHas h head) is.1 (no_row (λ row. is.0 ((tests_say.fits (le32 head 0) h.kind (head_key head)).1 row)))
part_words h head c (inr (inl is)) = let found = (tests_say.part_from h.parts (head_key head)).0 is.0 in subst (ImagePartHas h head) is.1 (part_not_above found.0 found.1 found.2)
part_words h head c (inr (inr (inl is))) = subst (ImagePartHas h head) is.1 (elim is.0.0 [ inl leaves ↦ many_leaves leaves is.0.1 | inr msrs ↦ many_msrs msrs is.0.1 ])
part_words h head c (inr (inr (inr (inl is)))) = subst (ImagePartHas h head) is.1 (other_length (λ row. is.0 ((tests_say.allowed (le32 head 0) h.width (le32 head 12)).1 row)))
part_words h head c (inr (inr (inr (inr none)))) = absurd none

part_row : (h : HostOf) (head : List ℕ) (c : ImageCause) → ImagePartHas h head c → AnyRow (part_causes h head) c
part_row h head _ (no_row none) = inl ((λ fits. none ((tests_say.fits (le32 head 0) h.kind (head_key head)).0 fits)), refl)
part_row h head _ (part_not_above q some above) = inr (inl ((tests_say.part_from h.parts (head_key head)).1 (q, some, above), refl))
part_row h head _ (many_leaves leaves many) = inr (inr (inl ((inl leaves, many), refl)))
part_row h head _ (many_msrs msrs many) = inr (inr (inl ((inr msrs, many), refl)))
part_row h head _ (other_length none) = inr (inr (inr (inl ((λ allows. none ((tests_say.allowed (le32 head 0) h.width (le32 head 12)).0 allows)), refl))))

-- ---- its bytes, and what stands behind them

content_words : (code : ℕ) (bytes : List ℕ) (c : ImageCause) → AnyRow (content_causes code bytes) c → ImageContentHas code bytes c
content_words code bytes c (inl is) = subst (ImageContentHas code bytes) is.1 (other_pairs is.0.0 (λ pairs. is.0.1 ((tests_say.pairs bytes).1 pairs)))
content_words code bytes c (inr none) = absurd none

content_row : (code : ℕ) (bytes : List ℕ) (c : ImageCause) → ImageContentHas code bytes c → AnyRow (content_causes code bytes) c
content_row code bytes _ (other_pairs is other) = inl ((is, λ pairs. other ((tests_say.pairs bytes).0 pairs)), refl)

padding_words : (padding : List ℕ) (c : ImageCause) → AnyRow (padding_causes padding) c → ImagePaddingHas padding c
padding_words padding c (inl is) = subst (ImagePaddingHas padding) is.1 (not_zeros (λ zeros. is.0 ((tests_say.all_zero padding).1 zeros)))
padding_words padding c (inr none) = absurd none

padding_row : (padding : List ℕ) (c : ImageCause) → ImagePaddingHas padding c → AnyRow (padding_causes padding) c
padding_row padding _ (not_zeros other) = inl ((λ zeros. other ((tests_say.all_zero padding).0 zeros)), refl)

-- ---- the tables

pub tables_say : ImageTablesSay
tables_say = record {
  in_head = λ widest head c. ((λ has. head_words widest head c (any_row (host_head_causes widest head) c has)), (λ has. row_any (host_head_causes widest head) c (head_row widest head c has)));
  in_frame = λ version h head c. ((λ has. frame_words h head version c (any_row (frame_causes version h head) c has)), (λ has. row_any (frame_causes version h head) c (frame_row h head version c has)));
  in_page = λ version pfn page c. ((λ has. page_words version pfn page c (any_row (page_causes version pfn page) c has)), (λ has. row_any (page_causes version pfn page) c (page_row version pfn page c has)));
  in_part = λ h head c. ((λ has. part_words h head c (any_row (part_causes h head) c has)), (λ has. row_any (part_causes h head) c (part_row h head c has)));
  in_content = λ code bytes c. ((λ has. content_words code bytes c (any_row (content_causes code bytes) c has)), (λ has. row_any (content_causes code bytes) c (content_row code bytes c has)));
  in_padding = λ padding c. ((λ has. padding_words padding c (any_row (padding_causes padding) c has)), (λ has. row_any (padding_causes padding) c (padding_row padding c has)));
}
