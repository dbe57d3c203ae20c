-- The blank form of a guest is blank.
use Rattle.mig_pvtables.proofs.Common.{◌≡◌, ℕ, ◌+◌, ◌*◌, ◌/◌, ◌%◌, ◌^◌, Bool, true, false, cond, List, Option, Some, None, refl, ap, ◌∙◌, arith, nat_le, ◌==◌, nat_cmp_total, nat_cmp-IsAntisymmetric, eq-eqb, Pv, Hvm, level_of, FrameOf, FrameMap, GuestOf, PartMap, p2m_key, is_blank_slot, part_total, part_exact, each_value, blanked_page, blanked_frame, blanked_part, blank_of, blank, place_of, field_at, is_marked, value_blanked, blanked_context, blanked_shared, Kind, zero_page}
use Rattle.mig_guest.specs.Tables.{blanked_entry}
use Rattle.mig_pvtables.specs.P2mFrames.{place_in}
use Rattle.mig_pvtables.specs.VcpuContexts.{blanked_value, blanked_shared_value}
use Rattle.mig_pvtables.proofs.EachValue.{each_each, same_each, stays_each}
use Rattle.mig_pvtables.proofs.Moduli.{each_modulo}
use Rattle.mig_pvtables.proofs.Searches.{overwritten}
use Rattle.std.specs.FinMap as maps

-- ---- one number

-- what is written of a number is that number modulo 2^64
zero_again : (b : Bool) (e : ℕ) → cond b 0 (cond b 0 e % 2 ^ 64) % 2 ^ 64 ≡ cond b 0 e % 2 ^ 64
zero_again true e = refl
zero_again false e = omega arith

entry_again : (level slot e : ℕ) → blanked_entry level slot (blanked_entry level slot e % 2 ^ 64) % 2 ^ 64 ≡ blanked_entry level slot e % 2 ^ 64
unfolding blanked_entry
entry_again level slot e = zero_again (is_blank_slot level slot) e

shared_again : (i v : ℕ) → blanked_shared_value i (blanked_shared_value i v % 2 ^ 64) % 2 ^ 64 ≡ blanked_shared_value i v % 2 ^ 64
unfolding blanked_shared_value
shared_again i v = zero_again (i == 387) v

-- ---- a field of a context

-- by whether it is no root, and whether it is ctrlreg[3]
abbrev form : Bool → Bool → ℕ → ℕ
form a b v = cond a v (cond b (v / 4096 * 4096) (cond (is_marked v) (v / 4096 * 4096 + 1) 0))

value_again : (i v : ℕ) → blanked_value i (blanked_value i v % 2 ^ 64) % 2 ^ 64 ≡ blanked_value i v % 2 ^ 64
unfolding blanked_value
value_again i v = by_place (field_at i)
  where
    marked : (n : ℕ) → is_marked ((n * 4096 + 1) % 2 ^ 64) ≡ true
    marked n = eq-eqb ((n * 4096 + 1) % 2 ^ 64 % 2) 1 (omega arith)

    last : (t : Bool) → cond (is_marked (cond t (v / 4096 * 4096 + 1) 0 % 2 ^ 64)) (cond t (v / 4096 * 4096 + 1) 0 % 2 ^ 64 / 4096 * 4096 + 1) 0 % 2 ^ 64 ≡ cond t (v / 4096 * 4096 + 1) 0 % 2 ^ 64
    last true = ap (λ b. cond b ((v / 4096 * 4096 + 1) % 2 ^ 64 / 4096 * 4096 + 1) 0 % 2 ^ 64) (marked (v / 4096)) ∙ omega arith
    last false = refl

    by_field : (a b : Bool) → form a b (form a b v % 2 ^ 64) % 2 ^ 64 ≡ form a b v % 2 ^ 64
    by_field true b = omega arith
    by_field false true = omega arith
    by_field false false = last (is_marked v)

    by_place : (o : Option ℕ) → value_blanked o (value_blanked o v % 2 ^ 64) % 2 ^ 64 ≡ value_blanked o v % 2 ^ 64
    by_place None = omega arith
    by_place (Some field) = by_field (nat_le field 16) (field == 17)

-- ---- pages and parts

page_again : (place level : Option ℕ) (page : Option (List ℕ)) → blanked_page place level (blanked_page place level page) ≡ blanked_page place level page
page_again (Some k) level page = overwritten (λ _. zero_page) zero_page page
page_again None None page = refl
page_again None (Some l) None = refl
page_again None (Some l) (Some p) = ap (λ q. Some q) (each_modulo 512 (blanked_entry l) p (entry_again l))

part_again : (a b : Bool) (part : List ℕ)
    → cond a (blanked_context (cond a (blanked_context part) (cond b (blanked_shared part) part)))
    (cond b (blanked_shared (cond a (blanked_context part) (cond b (blanked_shared part) part))) (cond a (blanked_context part) (cond b (blanked_shared part) part)))
    ≡ cond a (blanked_context part) (cond b (blanked_shared part) part)
part_again true b part = each_modulo 646 blanked_value part value_again
part_again false true part = each_modulo 512 blanked_shared_value part shared_again
part_again false false part = refl

-- ---- a guest

module _ (g : GuestOf) where
  abbrev parts_there : PartMap
  parts_there = each_value blanked_part g.parts

  same_list : maps.get parts_there p2m_key ≡ maps.get g.parts p2m_key
  same_list = stays_each part_total part_exact blanked_part p2m_key (λ _. refl) g.parts

  frame_again : (pfn : ℕ) (frame : FrameOf) → blanked_frame parts_there pfn (blanked_frame g.parts pfn frame) ≡ blanked_frame g.parts pfn frame
  frame_again pfn frame =
      ap (λ (o : Option (List ℕ)). record { type = frame.type; page = blanked_page (place_in o pfn) (level_of frame.type) (blanked_page (place_of g.parts pfn) (level_of frame.type) frame.page) }) same_list
      ∙ ap (λ (p : Option (List ℕ)). record { type = frame.type; page = p }) (page_again (place_of g.parts pfn) (level_of frame.type) frame.page)

  kind_case : (k : Kind) → blank_of k (blank_of k g) ≡ blank_of k g
  kind_case Hvm = refl
  kind_case Pv =
      ap (λ (m : FrameMap). record g { frames = m; parts = each_value blanked_part parts_there })
      (each_each nat_cmp_total nat_cmp-IsAntisymmetric (blanked_frame parts_there) (blanked_frame g.parts) g.frames
      ∙ same_each nat_cmp_total nat_cmp-IsAntisymmetric (λ pfn frame. blanked_frame parts_there pfn (blanked_frame g.parts pfn frame)) (blanked_frame g.parts) g.frames (λ pfn frame is. frame_again pfn frame))
      ∙ ap (λ (m : PartMap). record g { frames = each_value (blanked_frame g.parts) g.frames; parts = m })
      (each_each part_total part_exact blanked_part blanked_part g.parts
      ∙ same_each part_total part_exact (λ k x. blanked_part k (blanked_part k x)) blanked_part g.parts (λ key part is. part_again (key.code == 4) (key.code == 7) part))

  kind_stays : (k : Kind) → (blank_of k g).kind ≡ g.kind
  kind_stays Hvm = refl
  kind_stays Pv = refl

  pub blank_again : blank (blank g) ≡ blank g
  blank_again = ap (λ k. blank_of k (blank_of g.kind g)) (kind_stays g.kind) ∙ kind_case g.kind
