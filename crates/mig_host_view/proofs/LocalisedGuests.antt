-- What a localised PV guest has at each frame number and key.
use Rattle.mig_host_view.proofs.Common.{◌≡◌, ℕ, Bool, true, false, cond, ◌==◌, List, length, Option, Some, None, is_some, refl, sym, ap, subst, ◌∙◌, arith, nat_cmp_total, nat_cmp-IsAntisymmetric, eqb-true, eq-eqb, Pv, Hvm, PartKey, FrameOf, GuestOf, PartMap, IsPart, p2m_key, length_longs, part_total, part_exact, each_value, type_at, listed, listed_in, VcpuBasic, IsFrame, IsHostPart, FitsPolicy, Kind, level_of, place_of, p2m_page, renamed_table, Usage, from_each, to_each, some_each, len_each, count_each, stays_each, types_kept, renamed_part, localised_page, localised_frame, localised_of, renamed_context, raw, repaged_is_frame, changed_part}
use Rattle.std.specs.FinMap as maps

-- ---- frames

module _ (f : ℕ → Option ℕ) where
  pub localised_is_frame : (place level : Option ℕ) (x : FrameOf) → IsFrame x → IsFrame (record { type = x.type; page = localised_page place f level x.page })
  localised_is_frame (Some k) level x is = repaged_is_frame x (λ _. p2m_page f k) (λ _. length_longs 512 _) is
  localised_is_frame None (Some level) x is = repaged_is_frame x (renamed_table f level) (λ _. length_longs 512 _) is
  localised_is_frame None None x is = is

  -- a frame of a localised guest is one of the guest, of the same type
  pub from_localised : (k : Kind) (g : GuestOf) (pfn : ℕ) (y : FrameOf) → maps.get (localised_of k f g).frames pfn ≡ Some y → (x : FrameOf) × (maps.get g.frames pfn ≡ Some x) × (x.type ≡ y.type) × (IsFrame x → IsFrame y)
  from_localised Hvm g pfn y is = (y, is, refl, λ h. h)
  from_localised Pv g pfn y is =
      let (x, found, same) = from_each nat_cmp_total nat_cmp-IsAntisymmetric (localised_frame g.parts f) g.frames pfn y is in
      (x, found, ap (λ (z : FrameOf). z.type) same, λ h. subst IsFrame same (localised_is_frame (place_of g.parts pfn) (level_of x.type) x h))

  -- and the other way round
  pub to_localised : (k : Kind) (g : GuestOf) (pfn : ℕ) (x : FrameOf) → maps.get g.frames pfn ≡ Some x → (y : FrameOf) × (maps.get (localised_of k f g).frames pfn ≡ Some y) × (y.type ≡ x.type)
  to_localised Hvm g pfn x is = (x, is, refl)
  to_localised Pv g pfn x is = (localised_frame g.parts f pfn x, to_each nat_cmp_total nat_cmp-IsAntisymmetric (localised_frame g.parts f) g.frames pfn x is, refl)

  -- as many of them
  pub count_localised : (k : Kind) (g : GuestOf) → length (maps.entries (localised_of k f g).frames) ≡ length (maps.entries g.frames)
  count_localised Hvm g = refl
  count_localised Pv g = len_each nat_cmp_total nat_cmp-IsAntisymmetric (localised_frame g.parts f) g.frames

  pub localised_type : (g : GuestOf) (n : ℕ) → type_at (localised_of Pv f g).frames n ≡ type_at g.frames n
  localised_type g n = types_kept (localised_frame g.parts f) (λ n x. refl) g.frames n

-- ---- parts

module _ (used : Usage) (f : ℕ → Option ℕ) where
  -- a part of a guest, renamed, is one of its host
  part_case : (b : Bool) (kind : Kind) (width : ℕ) (key : PartKey) (bytes : List ℕ) → (key.code == 4) ≡ b → IsPart kind width key bytes → IsHostPart kind width key (cond b (renamed_context used f key.key1 bytes) bytes)
  part_case false kind width key bytes code is = changed_part width is.code bytes is.number is.len is (raw is.code bytes is.content)
  part_case true kind width key bytes four is = changed_part width VcpuBasic (renamed_context used f key.key1 bytes) (eqb-true key.code 4 four) (eq-eqb (length (renamed_context used f key.key1 bytes)) 5168 (length_longs 646 _)) is tt

  pub renamed_is_part : (kind : Kind) (width : ℕ) (key : PartKey) (bytes : List ℕ) → IsPart kind width key bytes → IsHostPart kind width key (renamed_part used f key bytes)
  renamed_is_part kind width key bytes is = part_case (key.code == 4) kind width key bytes refl is

  pub renamed_policy : (code : ℕ) (parts : PartMap) → FitsPolicy code parts → FitsPolicy code (each_value (renamed_part used f) parts)
  renamed_policy code parts fits = omega (arith, fits, count_each part_total part_exact (renamed_part used f) (λ k. k.code == code) parts)

  -- keys keep their parts, and the list of P2M frames is as it was
  pub renamed_there : (parts : PartMap) (key : PartKey) → is_some (maps.get (each_value (renamed_part used f) parts) key) ≡ is_some (maps.get parts key)
  renamed_there parts key = some_each part_total part_exact (renamed_part used f) parts key

  pub renamed_listed : (parts : PartMap) (k : ℕ) → listed (each_value (renamed_part used f) parts) k ≡ listed parts k
  renamed_listed parts k = ap (λ o. listed_in o k) (stays_each part_total part_exact (renamed_part used f) p2m_key (λ _. refl) parts)

  -- a context is one of the guest, renamed
  pub from_context : (parts : PartMap) (key : PartKey) (there : List ℕ) → maps.get (each_value (renamed_part used f) parts) key ≡ Some there → key.code ≡ 4
      → (context : List ℕ) × (maps.get parts key ≡ Some context) × (renamed_context used f key.key1 context ≡ there)
  from_context parts key there is code =
      let (context, found, same) = from_each part_total part_exact (renamed_part used f) parts key there is in
      (context, found, sym (ap (λ b. cond b (renamed_context used f key.key1 context) context) (eq-eqb key.code 4 code)) ∙ same)
