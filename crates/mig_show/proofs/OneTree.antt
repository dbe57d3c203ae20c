-- What is shown of an input is the only thing that can be.
use Rattle.mig_show.proofs.Common.{◌≡◌, ℕ, ◌≤◌, Bool, true, false, List, ◌++◌, length, Option, Some, None, refl, sym, ap, ◌∙◌, arith, length-append, Consumes, Data, Cause, Place, begins_with_ident, ShownFront, StandsBefore, StandsWhole, image_first, header_first, libxl_header, libxl_record, libxl_context, libxl_end, image_header, domain_header, image_record, image_end, Shows, front_tree, Seen1, ShowsWhole}
use Rattle.mig_show.proofs.OneFront.{only_one_front}
use Rattle.mig_show.proofs.Passing.{form_on}

some_none : {X : Type 0} {x : X} → ◌≡◌ {A = Option X} (Some x) None → ⊥
some_none e = cc

-- a record has a head
text_long : (wrapped : Bool) (text : List ℕ) (shown : Seen1) → StandsWhole wrapped text shown → 8 ≤ length text
text_long wrapped text shown whole = omega (arith, ap length whole.is.whole, whole.is.head_len, length-append whole.is.head (whole.body ++ whole.is.padding))

-- a whole stream has one
whole_long : (bytes : List ℕ) (front : ShownFront) (place : Option Place) → StandsBefore bytes front place → place ≡ None → 8 ≤ length bytes
whole_long _ _ _ image_first none = absurd (some_none none)
whole_long _ _ _ header_first none = absurd (some_none none)
whole_long _ _ _ (libxl_header bytes text front before size) none = omega (arith, size, length-append bytes text)
whole_long _ _ _ (libxl_record bytes text front shown n before whole going other) none = omega (arith, text_long true text shown whole, length-append bytes text)
whole_long _ _ _ (libxl_context bytes text front shown n before whole one unopened) none = omega (arith, text_long true text shown whole, length-append bytes text)
whole_long _ _ _ (libxl_end bytes text front shown n before whole zero) none = omega (arith, text_long true text shown whole, length-append bytes text)
whole_long _ _ _ (image_header bytes text front before size) none = omega (arith, size, length-append bytes text)
whole_long _ _ _ (domain_header bytes text front before size) none = omega (arith, size, length-append bytes text)
whole_long _ _ _ (image_record bytes text front shown n before whole going) none = omega (arith, text_long false text shown whole, length-append bytes text)
whole_long _ _ _ (image_end bytes text front shown n before whole zero) none = omega (arith, text_long false text shown whole, length-append bytes text)

-- what is left behind a front that was taken
taken_is : (input bytes : List ℕ) (left : Option (List ℕ)) → Consumes (Some input) left bytes → (rest : List ℕ) × (input ≡ bytes ++ rest)
taken_is input bytes None gone = absurd gone
taken_is input bytes (Some rest) gone = (rest, gone)

-- the form of a whole stream is that of the input
whole_form : (input : List ℕ) (left : Option (List ℕ)) (tree : Data) (w : ShowsWhole (Some input) left tree) → w.front.wrapper ≡ begins_with_ident input
whole_form input left tree w =
    let (rest, is) = taken_is input w.bytes left w.taken in
    w.form ∙ sym (form_on w.bytes rest (whole_long w.bytes w.front None w.stands refl)) ∙ ap begins_with_ident (sym is)

pub one_tree : (input : List ℕ) (left also : Option (List ℕ)) (refused : Option (Place × Cause)) (tree other : Data) → Shows (Some input) left refused tree → Shows (Some input) also refused other → tree ≡ other
one_tree input left also None tree other w v =
    let (rest, is) = taken_is input w.bytes left w.taken in
    let (more, too) = taken_is input v.bytes also v.taken in
    let same = only_one_front input w.bytes rest v.bytes more w.front v.front None is too (whole_form input left tree w ∙ sym (whole_form input also other v)) w.stands v.stands in
    w.tree_is ∙ ap (λ (front : ShownFront). front_tree front None) same.1 ∙ sym v.tree_is
one_tree input left also (Some refused) tree other w v =
    let same = only_one_front input w.bytes w.more v.bytes v.more w.front v.front (Some refused.0) w.split v.split (w.form ∙ sym v.form) w.stands v.stands in
    w.tree_is ∙ ap (λ (front : ShownFront). front_tree front (Some refused)) same.1 ∙ sym v.tree_is
