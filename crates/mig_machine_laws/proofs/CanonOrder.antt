-- The records of a canonical stream ascend by rank.
use Rattle.std.specs.FinMap as maps
use Rattle.std.proofs.Common.{◌≡◌, ◌≤◌, ◌<◌, ℕ, zero, suc, ◌+◌, ◌*◌, ◌^◌, List, [], ◌∷◌, ◌++◌, map, Option, Some, None, refl, ap, subst, sym, arith}
use Rattle.std.specs.List.{AllByRecursion, flat_map, range_with_len}
use Rattle.mig_bytes.specs.Fields.{le32}
use Rattle.mig_canon.proofs.CanonParts.{le32_first}
use Rattle.mig_canon.specs.Canon.{all_vcpus, batch, batches, bodies_of, frame_bodies, frames_in, info_records, key_of, last_records, p2m_body, p2m_record, p2m_records, part_record, records_of, records_of_vcpu, static_bodies, vcpu_record}
use Rattle.mig_guest.specs.Guests.{GuestOf}
use Rattle.mig_guest.specs.PartKeys.{p2m_key}
use Rattle.mig_guest.specs.declared.part_code.PartCode.TheVariants.{VcpuBasic, VcpuExtended, VcpuXsave, SharedInfo, Tsc, HvmContext, HvmParam, VcpuMsrs, CpuidLeaf, Msr}
use Rattle.mig_records.specs.Records.{Record}
use Rattle.mig_records.specs.Shapes.{canonical_bodies, parts_at}
use Rattle.mig_records_pages.specs.PageData.{Frame, body_of}
use Rattle.mig_machine_laws.proofs.Common.{Kind, Hvm, Pv, replicate, little_bytes}
use Rattle.mig_machine_laws.specs.CanonOrder.{AscendByRank, record_rank}

-- ---- ranks from one number to another

record Within (low high : ℕ) (rs : List Record) : Type 0 where
  above : AllByRecursion (λ r. low ≤ record_rank r) rs
  below : AllByRecursion (λ r. record_rank r ≤ high) rs
  ascend : AscendByRank rs

all_weaker : (P Q : Record → Type 0) → ((r : Record) → P r → Q r) → (rs : List Record) → AllByRecursion P rs → AllByRecursion Q rs
all_weaker P Q weaker [] all = tt
all_weaker P Q weaker (r ∷ rs) all = (weaker r all.0, all_weaker P Q weaker rs all.1)

all_joined : (P : Record → Type 0) (rs ss : List Record) → AllByRecursion P rs → AllByRecursion P ss → AllByRecursion P (rs ++ ss)
all_joined P [] ss all more = more
all_joined P (r ∷ rs) ss all more = (all.0, all_joined P rs ss all.1 more)

ascend_joined : (high low : ℕ) → high ≤ low → (rs ss : List Record) → AllByRecursion (λ r. record_rank r ≤ high) rs → AllByRecursion (λ r. low ≤ record_rank r) ss → AscendByRank rs → AscendByRank ss → AscendByRank (rs ++ ss)
ascend_joined high low le [] ss below above first second = second
ascend_joined high low le (r ∷ rs) ss below above first second = (
  all_joined (λ s. record_rank r ≤ record_rank s) rs ss first.0 (all_weaker (λ s. low ≤ record_rank s) (λ s. record_rank r ≤ record_rank s) (λ s h. let b = below.0 in omega (arith, le, h, b)) ss above),
  ascend_joined high low le rs ss below.1 above first.1 second,
)

join : (a b c d : ℕ) → a ≤ c → b ≤ c → b ≤ d → (rs ss : List Record) → Within a b rs → Within c d ss → Within a d (rs ++ ss)
join a b c d ac bc bd rs ss first second = record {
  above = all_joined (λ r. a ≤ record_rank r) rs ss first.above (all_weaker (λ r. c ≤ record_rank r) (λ r. a ≤ record_rank r) (λ r h. omega (arith, ac, h)) ss second.above);
  below = all_joined (λ r. record_rank r ≤ d) rs ss (all_weaker (λ r. record_rank r ≤ b) (λ r. record_rank r ≤ d) (λ r h. omega (arith, bd, h)) rs first.below) second.below;
  ascend = ascend_joined b c bc rs ss first.below second.above first.ascend second.ascend;
}

wider : (a b c d : ℕ) → c ≤ a → b ≤ d → (rs : List Record) → Within a b rs → Within c d rs
wider a b c d ca bd rs is = record {
  above = all_weaker (λ r. a ≤ record_rank r) (λ r. c ≤ record_rank r) (λ r h. omega (arith, ca, h)) rs is.above;
  below = all_weaker (λ r. record_rank r ≤ b) (λ r. record_rank r ≤ d) (λ r h. omega (arith, bd, h)) rs is.below;
  ascend = is.ascend;
}

none : (a b : ℕ) → Within a b []
none a b = record { above = tt; below = tt; ascend = tt }

one : (k : ℕ) (r : Record) → record_rank r ≡ k → Within k k (r ∷ [])
one k r is = record { above = (omega (arith, is), tt); below = (omega (arith, is), tt); ascend = (tt, tt) }

-- records of one rank
module _ {A : Type 0} (f : A → Record) (k : ℕ) (same : (x : A) → record_rank (f x) ≡ k) where
  all_at : (P : ℕ → Type 0) → P k → (xs : List A) → AllByRecursion (λ r. P (record_rank r)) (map f xs)
  all_at P holds [] = tt
  all_at P holds (x ∷ xs) = (subst P (sym (same x)) holds, all_at P holds xs)

  ascend_alike : (xs : List A) → AscendByRank (map f xs)
  ascend_alike [] = tt
  ascend_alike (x ∷ xs) = (all_at (λ n. record_rank (f x) ≤ n) (let is = same x in omega (arith, is)) xs, ascend_alike xs)

  alike : (xs : List A) → Within k k (map f xs)
  alike xs = record { above = all_at (λ n. k ≤ n) (omega arith) xs; below = all_at (λ n. n ≤ k) (omega arith) xs; ascend = ascend_alike xs }

-- ---- the records of a guest

module _ (g : GuestOf) where
  -- the records of a code that has this number
  with_number : (n k : ℕ) → ((body : List ℕ) → record_rank (n, body) ≡ k) → (bodies : List (List ℕ)) → Within k k (map (λ body. (n, body)) bodies)
  with_number n k same bodies = alike (λ body. (n, body)) k same bodies

  abbrev leaves : List Record
  leaves = records_of CpuidLeaf g

  abbrev msrs : List Record
  msrs = records_of Msr g

  static_within : Within 1 3 (static_bodies g)
  static_within =
      join 1 2 3 3 (omega arith) (omega arith) (omega arith) (leaves ++ (msrs ++ [])) ((16, []) ∷ [])
      (join 1 1 2 2 (omega arith) (omega arith) (omega arith) leaves (msrs ++ []) (with_number 17 1 (λ body. refl) (canonical_bodies CpuidLeaf (parts_at CpuidLeaf g)))
      (join 2 2 2 2 (omega arith) (omega arith) (omega arith) msrs [] (with_number 18 2 (λ body. refl) (canonical_bodies Msr (parts_at Msr g))) (none 2 2)))
      (one 3 (16, []) refl)

  p2m_within : (o : Option (List ℕ)) → Within 4 4 (p2m_record g.top o)
  p2m_within None = none 4 4
  p2m_within (Some frames) = one 4 (3, p2m_body g.top frames) refl

  frames_within : (fs : List Frame) (n : ℕ) → Within 5 5 (frame_bodies fs n)
  frames_within fs n = alike (λ k. (1, body_of (batch fs k))) 5 (λ k. refl) (range_with_len 0 n)

  -- ---- of vCPUs

  module _ (id : ℕ) (small : id < 4096) where
    abbrev body_with : List ℕ → List ℕ
    body_with bytes = little_bytes 4 id ++ (replicate 4 0 ++ bytes)

    id_first : (bytes : List ℕ) → le32 (body_with bytes) 0 ≡ id
    id_first bytes = le32_first id (replicate 4 0 ++ bytes) (omega (arith, small))

    basic : (o : Option (List ℕ)) → Within (10 + 4 * id) (10 + 4 * id) (part_record VcpuBasic (key_of VcpuBasic id) o)
    basic None = none _ _
    basic (Some bytes) = one (10 + 4 * id) (4, body_with bytes) (ap (λ n. 10 + 4 * n) (id_first bytes))

    extended : (o : Option (List ℕ)) → Within (11 + 4 * id) (11 + 4 * id) (part_record VcpuExtended (key_of VcpuExtended id) o)
    extended None = none _ _
    extended (Some bytes) = one (11 + 4 * id) (5, body_with bytes) (ap (λ n. 11 + 4 * n) (id_first bytes))

    xsave : (o : Option (List ℕ)) → Within (12 + 4 * id) (12 + 4 * id) (part_record VcpuXsave (key_of VcpuXsave id) o)
    xsave None = none _ _
    xsave (Some bytes) = one (12 + 4 * id) (6, body_with bytes) (ap (λ n. 12 + 4 * n) (id_first bytes))

    vcpu_msrs : (o : Option (List ℕ)) → Within (13 + 4 * id) (13 + 4 * id) (part_record VcpuMsrs (key_of VcpuMsrs id) o)
    vcpu_msrs None = none _ _
    vcpu_msrs (Some bytes) = one (13 + 4 * id) (12, body_with bytes) (ap (λ n. 13 + 4 * n) (id_first bytes))

    abbrev last_two : List Record
    last_two = vcpu_record g id VcpuXsave ++ (vcpu_record g id VcpuMsrs ++ [])

    vcpu_within : Within (10 + 4 * id) (13 + 4 * id) (records_of_vcpu g id)
    vcpu_within =
        join (10 + 4 * id) (10 + 4 * id) (11 + 4 * id) (13 + 4 * id) (omega arith) (omega arith) (omega arith) (vcpu_record g id VcpuBasic) (vcpu_record g id VcpuExtended ++ last_two) (basic (maps.get g.parts (key_of VcpuBasic id)))
        (join (11 + 4 * id) (11 + 4 * id) (12 + 4 * id) (13 + 4 * id) (omega arith) (omega arith) (omega arith) (vcpu_record g id VcpuExtended) last_two (extended (maps.get g.parts (key_of VcpuExtended id)))
        (join (12 + 4 * id) (12 + 4 * id) (13 + 4 * id) (13 + 4 * id) (omega arith) (omega arith) (omega arith) (vcpu_record g id VcpuXsave) (vcpu_record g id VcpuMsrs ++ []) (xsave (maps.get g.parts (key_of VcpuXsave id)))
        (join (13 + 4 * id) (13 + 4 * id) (13 + 4 * id) (13 + 4 * id) (omega arith) (omega arith) (omega arith) (vcpu_record g id VcpuMsrs) [] (vcpu_msrs (maps.get g.parts (key_of VcpuMsrs id))) (none (13 + 4 * id) (13 + 4 * id)))))

  vcpus_within : (a n : ℕ) → a + n ≤ 4096 → Within (10 + 4 * a) (9 + 4 * (a + n)) (flat_map (records_of_vcpu g) (range_with_len a n))
  vcpus_within a zero few = none _ _
  vcpus_within a (suc n) few =
      join (10 + 4 * a) (13 + 4 * a) (10 + 4 * (a + 1)) (9 + 4 * (a + suc n)) (omega arith) (omega arith) (omega arith) (records_of_vcpu g a) (flat_map (records_of_vcpu g) (range_with_len (a + 1) n)) (vcpu_within a (omega (arith, few)))
      (wider (10 + 4 * (a + 1)) (9 + 4 * (a + 1 + n)) (10 + 4 * (a + 1)) (9 + 4 * (a + suc n)) (omega arith) (omega arith) (flat_map (records_of_vcpu g) (range_with_len (a + 1) n)) (vcpus_within (a + 1) n (omega (arith, few))))

  all_vcpus_within : Within 10 16393 (all_vcpus g)
  unfolding all_vcpus
  all_vcpus_within = vcpus_within 0 4096 (omega arith)

  -- ---- behind the frames

  abbrev clock : List Record
  clock = records_of Tsc g

  abbrev shared : List Record
  shared = records_of SharedInfo g

  abbrev params : List Record
  params = records_of HvmParam g

  abbrev context : List Record
  context = records_of HvmContext g

  pv_last_within : Within 6 16393 (last_records Pv g)
  pv_last_within =
      join 6 7 10 16393 (omega arith) (omega arith) (omega arith) (clock ++ (shared ++ [])) (all_vcpus g)
      (join 6 6 7 7 (omega arith) (omega arith) (omega arith) clock (shared ++ []) (with_number 8 6 (λ body. refl) (canonical_bodies Tsc (parts_at Tsc g)))
      (join 7 7 7 7 (omega arith) (omega arith) (omega arith) shared [] (with_number 7 7 (λ body. refl) (canonical_bodies SharedInfo (parts_at SharedInfo g))) (none 7 7)))
      all_vcpus_within

  hvm_last_within : Within 6 9 (last_records Hvm g)
  hvm_last_within =
      join 6 6 8 9 (omega arith) (omega arith) (omega arith) clock (params ++ (context ++ [])) (with_number 8 6 (λ body. refl) (canonical_bodies Tsc (parts_at Tsc g)))
      (join 8 8 9 9 (omega arith) (omega arith) (omega arith) params (context ++ []) (with_number 10 8 (λ body. refl) (canonical_bodies HvmParam (parts_at HvmParam g)))
      (join 9 9 9 9 (omega arith) (omega arith) (omega arith) context [] (with_number 9 9 (λ body. refl) (canonical_bodies HvmContext (parts_at HvmContext g))) (none 9 9)))

  -- ---- the whole stream

  abbrev ended : List Record → List Record
  ended last = last ++ (0, []) ∷ []

  frames_on : (high : ℕ) → 6 ≤ high → high ≤ 2 ^ 40 → (last : List Record) → Within 6 high last → Within 5 (2 ^ 40) (frame_bodies (frames_in g) (batches (frames_in g)) ++ ended last)
  frames_on high low most last is =
      join 5 5 6 (2 ^ 40) (omega arith) (omega arith) (omega arith) (frame_bodies (frames_in g) (batches (frames_in g))) (ended last) (frames_within (frames_in g) (batches (frames_in g)))
      (join 6 high (2 ^ 40) (2 ^ 40) (omega arith) most most last ((0, []) ∷ []) is (one (2 ^ 40) (0, []) refl))

  pv_within : Within 0 (2 ^ 40) (bodies_of Pv g)
  pv_within =
      join 0 0 1 (2 ^ 40) (omega arith) (omega arith) (omega arith) (info_records Pv) (static_bodies g ++ (p2m_records Pv g ++ (frame_bodies (frames_in g) (batches (frames_in g)) ++ ended (last_records Pv g)))) (one 0 (2, 8 ∷ 4 ∷ replicate 6 0) refl)
      (join 1 3 4 (2 ^ 40) (omega arith) (omega arith) (omega arith) (static_bodies g) (p2m_records Pv g ++ (frame_bodies (frames_in g) (batches (frames_in g)) ++ ended (last_records Pv g))) static_within
      (join 4 4 5 (2 ^ 40) (omega arith) (omega arith) (omega arith) (p2m_records Pv g) (frame_bodies (frames_in g) (batches (frames_in g)) ++ ended (last_records Pv g)) (p2m_within (maps.get g.parts p2m_key))
      (frames_on 16393 (omega arith) (omega arith) (last_records Pv g) pv_last_within)))

  hvm_within : Within 1 (2 ^ 40) (bodies_of Hvm g)
  hvm_within =
      join 1 3 5 (2 ^ 40) (omega arith) (omega arith) (omega arith) (static_bodies g) (frame_bodies (frames_in g) (batches (frames_in g)) ++ ended (last_records Hvm g)) static_within
      (frames_on 9 (omega arith) (omega arith) (last_records Hvm g) hvm_last_within)

pub ascend : (kind : Kind) (g : GuestOf) → AscendByRank (bodies_of kind g)
ascend Pv g = (pv_within g).ascend
ascend Hvm g = (hvm_within g).ascend
