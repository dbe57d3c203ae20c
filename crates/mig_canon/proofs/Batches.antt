-- Batches of frames one after another.
use Rattle.mig_canon.proofs.Common.{◌≡◌, ℕ, suc, ◌+◌, ◌-◌, ◌*◌, ◌<◌, min, List, ◌∷◌, length, take, drop, sym, ap, ◌∙◌, arith, drop-drop, drop-cons, length-drop, take_all, Frame, Record, batch, batches, frame_bodies, most_entries, length-map-range_with_len, body_of, take_min, drop_min, get_or-map-range_with_len}
use Rattle.std.specs.Int.{div_ceil}

-- ---- all batches

-- a count of frames that is the next batch's
pub record Counted (fs at : List Frame) (k count : ℕ) : Type 0 where
  pub size : count ≡ min 1024 (length at)
  pub batch_is : take count at ≡ batch fs k
  pub next_is : drop count at ≡ drop (1024 * (k + 1)) fs

pub counted : (fs at : List Frame) (k count total : ℕ) → at ≡ drop (1024 * k) fs → total ≡ length fs → count ≡ min 1024 (total - 1024 * k) → Counted fs at k count
counted fs at k count total is all n =
    let size : count ≡ min 1024 (length at) = n ∙ ap (λ m. min 1024 (m - 1024 * k)) all ∙ ap (min 1024) (sym (length-drop (1024 * k) fs) ∙ ap length (sym is)) in
    record {
      size = size;
      batch_is = ap (λ m. take m at) size ∙ take_min 1024 at ∙ ap (take 1024) is;
      next_is = ap (λ m. drop m at) size ∙ drop_min 1024 at ∙ ap (drop 1024) is ∙ drop-drop 1024 (1024 * k) fs ∙ ap (λ m. drop m fs) (let e : 1024 * k + 1024 ≡ 1024 * (k + 1) = omega arith in e);
    }

module _ (fs : List Frame) (n : ℕ) where
  bodies_len : length (frame_bodies fs n) ≡ n
  bodies_len = length-map-range_with_len (λ k. (1, body_of (batch fs k))) 0 n

  pub batch_next : (k : ℕ) → k < n → drop k (frame_bodies fs n) ≡ (1, body_of (batch fs k)) ∷ drop (suc k) (frame_bodies fs n)
  batch_next k less =
      let one : ℕ → Record = λ i. (1, body_of (batch fs i)) in
      drop-cons (frame_bodies fs n) k (one k) (omega (arith, less, bodies_len)) ∙ ap (λ r. r ∷ drop (suc k) (frame_bodies fs n)) (get_or-map-range_with_len one 0 n k k (one k) less (omega arith))

  pub all_bodies : (k : ℕ) → k ≡ n → take k (frame_bodies fs n) ≡ frame_bodies fs n
  all_bodies k all = take_all k (frame_bodies fs n) (omega (arith, bodies_len, all))

-- the number of batches, where the frames are counted
pub batch_count : (fs : List Frame) (total n : ℕ) → total ≡ length fs → n ≡ div_ceil total most_entries → n ≡ batches fs
batch_count fs total n is counted = counted ∙ ap (λ m. div_ceil m most_entries) is
