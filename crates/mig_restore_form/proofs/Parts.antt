-- A record behind its head and behind its body, and the whole guest behind the last record.
use Rattle.mig_restore_form.proofs.Common.{◌≡◌, ℕ, List, [], ◌∷◌, ◌++◌, false, nat_eq, Option, Some, None, length, refl, sym, ap, ◌∙◌, arith, common_steps, padding_len, le32, Judged, ◌>>=◌, part, tried, Passes, Faulty, both_pass, part_passes, tried_passes, Cause, Truncated, Kind, fault_of_guest, StreamRecord, Content, is_verified, placed_content, Opening, Before, before, head_at, body_at, fault_of_head, fault_at_end, sent}
use Rattle.mig_records.specs.declared.head.RecordHead.{RecordHead}
use Rattle.mig_records.specs.Heads.{head_in}
use Rattle.mig_restore_form.specs.Judging.{record_at, next_at}

unfoldable pub behind_body : Before → List ℕ → Content × List ℕ → Judged Cause StreamRecord
behind_body b head body = part Truncated (padding_len (le32 head 4)) body.1 >>= λ padding. Passes (record { type = le32 head 0; content = placed_content (is_verified b.types) body.0 }) padding.1

unfoldable pub behind_head : Before → List ℕ × List ℕ → Judged Cause StreamRecord
behind_head b head = body_at b.opening.kind b.top (le32 head.0 0) (le32 head.0 4) head.1 >>= behind_body b head.0

pub begins : (b : Before) (i : List ℕ) → record_at b i ≡ (head_at b i >>= behind_head b)
unfolding record_at behind_head behind_body
begins b i = refl

pub goes_on : (b : Before) (head : List ℕ) (h : RecordHead) (k : Kind) (t : ℕ) → h ≡ head_in head → k ≡ b.opening.kind → t ≡ b.top → (i : List ℕ) → behind_head b (head, i) ≡ (body_at k t h.kind h.len i >>= behind_body b head)
unfolding behind_head
goes_on b head h k t is same_kind same_top i =
    let type_is : h.kind ≡ le32 head 0 = ap (λ (x : RecordHead). x.kind) is in
    let len_is : h.len ≡ le32 head 4 = ap (λ (x : RecordHead). x.len) is in
    rw (type_is, len_is, same_kind, same_top) refl

pub padded : (b : Before) (head : List ℕ) (h : RecordHead) (c : Content) → h ≡ head_in head → (i : List ℕ)
    → behind_body b head (c, i) ≡ (part Truncated (padding_len h.len) i >>= λ padding. Passes (record { type = h.kind; content = placed_content (is_verified b.types) c }) padding.1)
unfolding behind_body
padded b head h c is i = rw (ap (λ (x : RecordHead). x.kind) is, ap (λ (x : RecordHead). x.len) is) refl

-- the causes of so many bytes tried in them alone
assoc : {X : Type 0} (f : List ℕ → Option Cause) (next : List ℕ → List ℕ → Judged Cause X) (j : Judged Cause (List ℕ)) → (j >>= λ p. tried (f p.0) p.1 >>= λ _. next p.0 p.1) ≡ ((j >>= λ p. tried (f p.0) p.1 >>= λ _. Passes p.0 p.1) >>= λ p. next p.0 p.1)
assoc f next (Faulty d mid) = refl
assoc f next (Passes x mid) = elim (f x) as (λ g. (tried g mid >>= λ _. next x mid) ≡ ((tried g mid >>= λ _. Passes x mid) >>= λ p. next p.0 p.1)) [ None ↦ refl | Some d ↦ refl ]

-- a record: its head, and what follows it
pub head_stage : (b : Before) (i : List ℕ) → record_at b i ≡ (part Truncated 8 i >>= λ p. tried (fault_of_head b p.0) p.1 >>= λ _. behind_head b (p.0, p.1))
head_stage b i = begins b i ∙ sym (assoc (fault_of_head b) (λ head rest. behind_head b (head, rest)) (part Truncated 8 i))

-- ---- the whole guest

unfoldable pub behind_record : Opening → List StreamRecord → StreamRecord × List ℕ → Judged Cause StreamRecord
behind_record o records r = tried (fault_at_end r.0.type (sent o.kind (records ++ r.0 ∷ []))) r.1 >>= λ _. Passes r.0 r.1

pub asks : (o : Opening) (records : List StreamRecord) (i : List ℕ) → next_at o records i ≡ (record_at (before o records) i >>= behind_record o records)
unfolding next_at behind_record
asks o records i = refl

module _ (o : Opening) (records : List StreamRecord) (r : StreamRecord) where
  -- a record that isn't the last
  pub not_last : nat_eq r.type 0 ≡ false → (i : List ℕ) → behind_record o records (r, i) ≡ Passes r i
  unfolding behind_record
  not_last goes i = rw goes refl

  -- the last, of a whole guest, and of one with a fault
  pub last_fine : r.type ≡ 0 → fault_of_guest (sent o.kind (records ++ r ∷ [])) ≡ None → (i : List ℕ) → behind_record o records (r, i) ≡ Passes r i
  unfolding behind_record
  last_fine zero fine i = grind (arith, common_steps, zero, fine)

  pub last_faulty : (c : Cause) → r.type ≡ 0 → fault_of_guest (sent o.kind (records ++ r ∷ [])) ≡ Some c → (i : List ℕ) → behind_record o records (r, i) ≡ Faulty c i
  unfolding behind_record
  last_faulty c zero fault i = grind (arith, common_steps, zero, fault)

-- ---- a part without fault, and what follows it

pub record Taken {Y : Type 0} (n : ℕ) (f : List ℕ → Option Cause) (next : List ℕ → List ℕ → Judged Cause Y) (i : List ℕ) (x : Y) (rest : List ℕ) : Type 0 where
  pub bytes : List ℕ
  pub mid : List ℕ
  pub whole : i ≡ bytes ++ mid
  pub size : length bytes ≡ n
  pub fine : f bytes ≡ None
  pub after : next bytes mid ≡ Passes x rest

pub taken : {Y : Type 0} (n : ℕ) (f : List ℕ → Option Cause) (next : List ℕ → List ℕ → Judged Cause Y) (i : List ℕ) (x : Y) (rest : List ℕ) → (part Truncated n i >>= λ p. tried (f p.0) p.1 >>= λ _. next p.0 p.1) ≡ Passes x rest → Taken n f next i x rest
taken n f next i x rest h =
    let b = both_pass (part Truncated n i) (λ p. tried (f p.0) p.1 >>= λ _. next p.0 p.1) x rest h in
    let p = part_passes Truncated n i b.x b.mid b.first in
    let t = both_pass (tried (f b.x) b.mid) (λ _. next b.x b.mid) x rest b.second in
    record { bytes = b.x; mid = b.mid; whole = p.0; size = p.1; fine = (tried_passes (f b.x) b.mid t.mid t.x t.first).0; after = t.second }
