-- The slots that an address selects are its bits from 12 on; addresses of one page select the same.
use Rattle.mig_walk.proofs.Common.{◌≡◌, ℕ, ◌+◌, ◌-◌, ◌*◌, ◌/◌, ◌^◌, ◌≤◌, ◌<◌, zero, suc, Option, Some, None, sym, ap, subst, ◌∙◌, arith, inl, inr, option_and_then, ◌⊎◌, Frame, level_of, PageType, Standing, Walked, IsCanonical, IsTableOf, NamesNothing, Reach, IsWalked, by_root, by_entry, no_vcpu, not_canonical, absent, not_table, frame, ◌%◌}
use Rattle.std.proofs.Math.Nat.{div-div-eq-div-mul}
use Rattle.std.proofs.lemmas.Nat.{pow-add, mod-pow-add}
use Rattle.mig_walk.specs.Walks.{slot_of}
use Rattle.mig_pagetypes.specs.declared.page_type.PageType.TheVariants as types

slot_and_below : (address level : ℕ) → address % 2 ^ (9 + (3 + 9 * level)) ≡ slot_of address level * 2 ^ (3 + 9 * level) + address % 2 ^ (3 + 9 * level)
unfolding slot_of
slot_and_below address level = mod-pow-add address 9 (3 + 9 * level)

pub slots_and_byte : (address : ℕ) → address % 2 ^ 48 ≡ slot_of address 4 * 2 ^ 39 + (slot_of address 3 * 2 ^ 30 + (slot_of address 2 * 2 ^ 21 + (slot_of address 1 * 2 ^ 12 + address % 2 ^ 12)))
slots_and_byte address = slot_and_below address 4 ∙ ap (λ r. slot_of address 4 * 2 ^ 39 + r) below_4
  where
    below_2 : address % 2 ^ 30 ≡ slot_of address 2 * 2 ^ 21 + (slot_of address 1 * 2 ^ 12 + address % 2 ^ 12)
    below_2 = slot_and_below address 2 ∙ ap (λ r. slot_of address 2 * 2 ^ 21 + r) (slot_and_below address 1)

    below_4 : address % 2 ^ 39 ≡ slot_of address 3 * 2 ^ 30 + (slot_of address 2 * 2 ^ 21 + (slot_of address 1 * 2 ^ 12 + address % 2 ^ 12))
    below_4 = slot_and_below address 3 ∙ ap (λ r. slot_of address 3 * 2 ^ 30 + r) below_2

-- ---- canonical addresses

pub low_or_high : (address : ℕ) → IsCanonical address → (address < 2 ^ 47) ⊎ (2 ^ 64 - 2 ^ 47 ≤ address)
low_or_high address (inl low) = inl (omega (arith, low))
low_or_high address (inr high) = inr (omega (arith, high))

pub canonical_there : (address : ℕ) → address < 2 ^ 64 → (address < 2 ^ 47) ⊎ (2 ^ 64 - 2 ^ 47 ≤ address) → IsCanonical address
canonical_there address long (inl low) = inl (omega (arith, low))
canonical_there address long (inr high) = inr (omega (arith, long, high))

-- ---- addresses of one page

-- no frame is a table of level 0
no_level_0 : (kind : PageType) → level_of kind ≡ Some 0 → ⊥
no_level_0 types.Notab is = cc
no_level_0 _ is = cc

pub no_table_0 : (o : Option PageType) → option_and_then level_of o ≡ Some 0 → ⊥
no_table_0 None is = cc
no_table_0 (Some kind) is = no_level_0 kind is

module _ (one other : ℕ) (page : one / 2 ^ 12 ≡ other / 2 ^ 12) where
  bits_above : (k : ℕ) → one / 2 ^ (12 + k) ≡ other / 2 ^ (12 + k)
  bits_above k = subst (λ d. one / d ≡ other / d) (sym (pow-add 2 12 k)) (sym (div-div-eq-div-mul one (2 ^ 12) (2 ^ k)) ∙ ap (λ p. p / 2 ^ k) page ∙ div-div-eq-div-mul other (2 ^ 12) (2 ^ k))

  same_slot : (level : ℕ) → 1 ≤ level → slot_of one level ≡ slot_of other level
  unfolding slot_of
  same_slot level least =
      let at : 12 + 9 * (level - 1) ≡ 3 + 9 * level = omega (arith, least) in
      ap (λ p. p % 512) (subst (λ k. one / 2 ^ k ≡ other / 2 ^ k) at (bits_above (9 * (level - 1))))

  same_canonical : IsCanonical one → IsCanonical other
  same_canonical canonical = subst (λ p. (p ≡ 0) ⊎ (p ≡ 2 ^ 17 - 1)) (bits_above 35) canonical

  other_canonical : IsCanonical other → IsCanonical one
  other_canonical canonical = subst (λ p. (p ≡ 0) ⊎ (p ≡ 2 ^ 17 - 1)) (sym (bits_above 35)) canonical

  module _ (s : Standing) (vcpu : ℕ) where
    same_way : (level pfn : ℕ) → Reach s vcpu one level pfn → Reach s vcpu other level pfn
    same_way _ _ (by_root context pfn there names) = by_root context pfn there names
    same_way _ _ (by_entry level table number pfn way is says names) =
        by_entry level table number pfn (same_way (level + 1) table way) is (subst (λ slot. s.says table slot ≡ Frame number) (same_slot (level + 1) (omega arith)) says) names

    same_end : (level pfn : ℕ) → IsTableOf s level pfn → NamesNothing (s.says pfn (slot_of one level)) → NamesNothing (s.says pfn (slot_of other level))
    same_end zero pfn is nothing = absurd (no_table_0 (s.types pfn) is)
    same_end (suc below) pfn is nothing = subst (λ slot. NamesNothing (s.says pfn slot)) (same_slot (suc below) (omega arith)) nothing

    pub same_answer : (answer : Walked) → IsWalked s vcpu one answer → IsWalked s vcpu other answer
    same_answer _ (no_vcpu none) = no_vcpu none
    same_answer _ (not_canonical some isnt) = not_canonical some (λ is. isnt (other_canonical is))
    same_answer _ (absent is level pfn way table nothing) = absent (same_canonical is) level pfn (same_way level pfn way) table (same_end level pfn table nothing)
    same_answer _ (not_table is level pfn least most way none) = not_table (same_canonical is) level pfn least most (same_way level pfn way) none
    same_answer _ (frame is number pfn kind way names has) = frame (same_canonical is) number pfn kind (same_way 0 pfn way) names has
