-- What the parts of the exercise ask of its host, and what setting them makes.
use Rattle.mig_exercise.proofs.Common.{◌≡◌, ℕ, suc, true, ◌+◌, ◌*◌, ◌^◌, ◌<◌, ◌≤◌, List, ◌++◌, length, refl, sym, ap, subst, ◌∙◌, arith, eq-eqb, ◌==◌, little_bytes, Pv, VcpuBasic, PartKey, HostOf, part_cmp, p2m_key, vcpu_key, shared_key, PartMap, insert_len, length_longs, part_total, exercise_context, exercise_p2m_list, p2m_frame_count, page_of_zeros, most_policy_entries, PartCode, P2mFrames, SharedInfo, IsRawContent, IsHostPart, code_number, row_of, FitsPolicy, put_part_in}
use Rattle.std.proofs.lemmas.List.Sums.{length-filter, count_by-le-length}
use Rattle.mig_guest.specs.Longs.{longs}
use Rattle.mig_exercise.specs.ExerciseHosts.{exercise_parts}
use Rattle.std.specs.FinMap as maps

-- ---- the list of P2M frames

-- one number more
pub list_more : (k : ℕ) (now new : List ℕ) → now ≡ longs k (λ k. 6 + k) → new ≡ now ++ little_bytes 8 (6 + k) → new ≡ longs (k + 1) (λ k. 6 + k)
unfolding longs
list_more k now new is more = more ∙ ap (λ l. l ++ little_bytes 8 (6 + k)) is ∙ ap (λ m. longs m (λ k. 6 + k)) (let e : suc k ≡ k + 1 = omega arith in e)

-- ---- a host with few parts

-- a PV host of this width that has no more parts than so many
pub record HasFewParts (n count : ℕ) (h : HostOf) : Type 0 where
  pub kind : h.kind ≡ Pv
  pub width : h.width ≡ n
  pub few : maps.len h.parts ≤ count

pub no_parts_yet : (n : ℕ) (h : HostOf) → h.kind ≡ Pv → h.width ≡ n → h.parts ≡ maps.empty → HasFewParts n 0 h
no_parts_yet n h kind width none = record { kind = kind; width = width; few = omega (arith, ap maps.len none, maps.len-empty part_cmp (List ℕ)) }

-- what such a host allows, and what it is with one part more
module _ (n count : ℕ) (h : HostOf) where
  module _ (is : HasFewParts n count h) (key : PartKey) (bytes : List ℕ) where
    pub fits_policy : (code : ℕ) → count < most_policy_entries → FitsPolicy code (maps.insert h.parts key bytes)
    fits_policy code small =
        let m : PartMap = maps.insert h.parts key bytes in
        omega (arith, length-filter (λ (e : PartKey × List ℕ). e.0.code == code) (maps.entries m), count_by-le-length (λ (e : PartKey × List ℕ). e.0.code == code) (maps.entries m), sym (maps.len-entries m), insert_len part_total h.parts key bytes, is.few, small)

    pub one_part_more : (new : HostOf) → new ≡ put_part_in h key bytes → HasFewParts n (count + 1) new
    one_part_more new put = subst (HasFewParts n (count + 1)) (sym put) (record { kind = is.kind; width = is.width; few = omega (arith, insert_len part_total h.parts key bytes, is.few) })

  -- each part of the exercise is one of the host
  module _ (is : HasFewParts n count h) (bytes : List ℕ) where
    fits : (code : PartCode) (key : PartKey) → key.code ≡ code_number code → (row_of code).of_kind Pv ≡ true → (row_of code).keys key.key1 key.key2 ≡ true → key.key1 < 2 ^ 32 → key.key2 < 2 ^ 32
        → (row_of code).allows h.width (length bytes) ≡ true → IsRawContent code bytes → IsHostPart h.kind h.width key bytes
    fits code key number of keys small1 small2 len content = record { code = code; number = number; of_kind = ap (row_of code).of_kind is.kind ∙ of; keys = keys; small1 = small1; small2 = small2; len = len; content = content }

    pub p2m_fits : bytes ≡ exercise_p2m_list n → IsHostPart h.kind h.width p2m_key bytes
    p2m_fits told = fits P2mFrames p2m_key refl refl refl (omega arith) (omega arith) (eq-eqb _ _ (ap length told ∙ length_longs (p2m_frame_count n) (λ k. 6 + k) ∙ ap (λ w. 8 * p2m_frame_count w) (sym is.width))) tt

    pub shared_fits : bytes ≡ page_of_zeros → IsHostPart h.kind h.width shared_key bytes
    shared_fits told = fits SharedInfo shared_key refl refl refl (omega arith) (omega arith) (eq-eqb _ _ (ap length told ∙ length_longs 512 (λ _. 0))) tt

    pub context_fits : bytes ≡ exercise_context n → IsHostPart h.kind h.width (vcpu_key 0) bytes
    context_fits told = fits VcpuBasic (vcpu_key 0) refl refl refl (omega arith) (omega arith) (eq-eqb _ _ (ap length told ∙ length_longs 646 _)) tt

-- ---- all parts

-- set one after another, they make the parts of the exercise
pub all_parts_set : (n : ℕ) (a b c d : HostOf) (list shared context : List ℕ) → a.parts ≡ maps.empty → b ≡ put_part_in a p2m_key list → c ≡ put_part_in b shared_key shared → d ≡ put_part_in c (vcpu_key 0) context
    → list ≡ exercise_p2m_list n → shared ≡ page_of_zeros → context ≡ exercise_context n → d ≡ record a { parts = exercise_parts n }
unfolding exercise_parts
all_parts_set n a b c d list shared context none first second third is_list is_shared is_context =
    third ∙ ap (λ (x : HostOf). put_part_in x (vcpu_key 0) context) second ∙ ap (λ (x : HostOf). put_part_in (put_part_in x shared_key shared) (vcpu_key 0) context) first
    ∙ (λ i. record a { parts = maps.insert (maps.insert (maps.insert (none i) p2m_key (is_list i)) shared_key (is_shared i)) (vcpu_key 0) (is_context i) })
