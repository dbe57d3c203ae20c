-- The smallest HVM stream as it is shown.
use Rattle.std.specs.Prelude.{ℕ, List, [], ◌∷◌, codes, Some, None, false}
use Rattle.mig_show.specs.Common.{Data, Hvm}
use Rattle.mig_show.specs.declared.record.Seen1.{Seen1}
use Rattle.mig_show.specs.Tree.{shown_tree}

-- a record of a libxc stream that has no words
abbrev pub wordless : ℕ → ℕ → Seen1
wordless kind len = record { wrapped = false; kind = kind; len = len; words = 0; pages = 0 }

-- of version 3, with STATIC_DATA_END, HVM_CONTEXT and END
abbrev pub smallest_tree : Data
smallest_tree = shown_tree false (Some 3) (Some Hvm) (wordless 0x10 0 ∷ wordless 0x9 40 ∷ wordless 0x0 0 ∷ []) None

-- its JSON text, which has no spaces
abbrev pub smallest_text : List ℕ
smallest_text = codes "{\"kind\":\"hvm\",\"records\":[{\"layer\":\"libxc\",\"length\":0,\"name\":\"STATIC_DATA_END\",\"type\":16},{\"layer\":\"libxc\",\"length\":40,\"name\":\"HVM_CONTEXT\",\"type\":9},{\"layer\":\"libxc\",\"length\":0,\"name\":\"END\",\"type\":0}],\"refused\":null,\"version\":3,\"wrapper\":false}"
