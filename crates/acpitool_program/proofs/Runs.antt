-- A flush after a run, which keeps what was printed.
use Rattle.std.proofs.Common.{◌⊎◌, ℕ, Bool, true, false, List, Option, map, string_bytes, inl, inr}
use Rattle.std.specs.Io.KnownBytes.{Keeps}
use Rattle.acpitool_program.proofs.Aparts.{lays_kept}
use Rattle.acpitool_program.proofs.Kept.{unread_kept, unpacked_kept, written_kept, archived_kept, loaded_kept, repaired_kept, compared_kept}
use Rattle.acpitool_program.proofs.Streams.{keeps_kept, appends_kept}
use Rattle.acpitool_program.specs.Checking.{AreChecked}
use Rattle.acpitool_program.specs.Disassembly.{DisassemblesFile}
use Rattle.acpi_asl.specs.declared.block.BlockText.{BlockText}
use Rattle.acpi_asl.specs.declared.block.BlockText.TheVariants as blocks
use Rattle.acpitool_program.specs.Drawing.{Draws, DrawsFile, DrawsImage}
use Rattle.acpitool_program.specs.Job.{Job}
use Rattle.acpitool_program.specs.Listing.{Listed}
use Rattle.acpi_compile.specs.Compiled.{is_asl}
use Rattle.acpitool_program.specs.Making.{MakesOf, MakesWord, Makes}
use Rattle.acpitool_program.specs.Outcome.{Outcome, Printed}
use Rattle.acpi_forms.specs.Known.{is_known}
use Rattle.acpi_terms_text.specs.Objects.{Callee}
use Rattle.acpitool_program.specs.declared.command.Style.{Style}
use Rattle.acpitool_program.specs.Program.{Ended, IsDone, IsShown, AreListed, IsBlockAmong, IsNoneAmong, IsBlockShown, NotStated, names_text, IsTemplated}
use Rattle.acpitool_program.specs.declared.command.Command.{Command}
use Rattle.acpitool_program.specs.declared.command.Command.TheVariants.{Help, Version, Show, Check, Image, Make, Template}
use Rattle.acpitool_program.specs.declared.command.Command.TheVariants.{Disassemble, Names, Unpack, Cpio, Lay, Loader, Repair, Diff, Json, Tree}

printed_kept : (job : Job) (outcomes : List Outcome) (o o' o'' e e' : Option (List ℕ)) (s : ℕ) → Keeps o' o''
    → Printed job outcomes o o' e e' s → Printed job outcomes o o'' e e' s
printed_kept job outcomes o o' o'' e e' s kept one =
    record { are = one.are; wrote = appends_kept o o' o'' _ one.wrote kept; complained = one.complained; is = one.is }

unstated_kept : (numbers : List (List ℕ)) (o o' o'' e e' : Option (List ℕ)) (s : ℕ) → Keeps o' o''
    → NotStated numbers o o' e e' s → NotStated numbers o o'' e e' s
unstated_kept numbers o o' o'' e e' s kept not = record {
  wrong = not.wrong;
  is_wrong = not.is_wrong;
  is = not.is;
  complained = not.complained;
  silent = keeps_kept o o' o'' not.silent kept;
}

shown_kept : (style : Style) (files numbers : List (List ℕ)) (o o' o'' e e' : Option (List ℕ)) (s : ℕ) → Keeps o' o''
    → IsShown style files numbers o o' e e' s → IsShown style files numbers o o'' e e' s
shown_kept style files numbers o o' o'' e e' s kept (inl all) = inl (record {
  all = all.all;
  stated = all.stated;
  gathered = all.gathered;
  are = all.are;
  hold = all.hold;
  further = all.further;
  named = all.named;
  shown = all.shown;
  of = all.of;
  show = all.show;
  wrote = appends_kept o o' o'' _ all.wrote kept;
  complained = all.complained;
  is = all.is;
})
shown_kept style files numbers o o' o'' e e' s kept (inr not) = inr (unstated_kept numbers o o' o'' e e' s kept not)

listed_kept : (files : List (List ℕ)) (o o' o'' e e' : Option (List ℕ)) (s : ℕ) → Keeps o' o''
    → AreListed files o o' e e' s → AreListed files o o'' e e' s
listed_kept files o o' o'' e e' s kept all =
    record { lines = all.lines; listed = all.listed; wrote = appends_kept o o' o'' _ all.wrote kept }

checked_kept : (json : Bool) (files : List (List ℕ)) (o o' o'' e e' : Option (List ℕ)) (s : ℕ) → Keeps o' o''
    → AreChecked json files o o' e e' s → AreChecked json files o o'' e e' s
checked_kept true files o o' o'' e e' s kept all =
    record { lines = all.lines; checked = all.checked; wrote = appends_kept o o' o'' _ all.wrote kept }
checked_kept false files o o' o'' e e' s kept all = record {
  outcomes = all.outcomes;
  are = all.are;
  hold = all.hold;
  wrote = appends_kept o o' o'' _ all.wrote kept;
  err_then = all.err_then;
  complained = all.complained;
  unread = all.unread;
  told = all.told;
  is = all.is;
}

image_kept : (json : Bool) (file : List ℕ) (base : ℕ) (o o' o'' e e' : Option (List ℕ)) (s : ℕ) → Keeps o' o''
    → Listed json file base o o' e e' s → Listed json file base o o'' e e' s
image_kept json file base o o' o'' e e' s kept (inl (bytes, inl all)) = inl (
  bytes,
  inl (record {
    tables = all.tables;
    found = all.found;
    wrote = appends_kept o o' o'' _ all.wrote kept;
    silent = all.silent;
    is = all.is;
  }),
)
image_kept json file base o o' o'' e e' s kept (inl (bytes, inr not)) = inl (
  bytes,
  inr (record {
    fault = not.fault;
    cause = not.cause;
    complained = not.complained;
    silent = keeps_kept o o' o'' not.silent kept;
    is = not.is;
  }),
)
image_kept json file base o o' o'' e e' s kept (inr not) = inr (unread_kept file o o' o'' e e' s kept not)

disassembled_kept : (block : BlockText) (stated : List (List ℕ × ℕ)) (further : List Callee) (file : List ℕ) (o o' o'' e e' : Option (List ℕ)) (s : ℕ) → Keeps o' o''
    → DisassemblesFile block stated further file o o' e e' s → DisassemblesFile block stated further file o o'' e e' s
disassembled_kept block stated further file o o' o'' e e' s kept (inl (bytes, inl all)) = inl (
  bytes,
  inl (record { text = all.text; of = all.of; wrote = appends_kept o o' o'' _ all.wrote kept; silent = all.silent; is = all.is }),
)
disassembled_kept block stated further file o o' o'' e e' s kept (inl (bytes, inr (inl part))) = inl (
  bytes,
  inr (inl (record {
    text = part.text;
    of = part.of;
    wrote = appends_kept o o' o'' _ part.wrote kept;
    fault = part.fault;
    cause = part.cause;
    complained = part.complained;
    is = part.is;
  })),
)
disassembled_kept block stated further file o o' o'' e e' s kept (inl (bytes, inr (inr not))) = inl (
  bytes,
  inr (inr (record {
    fault = not.fault;
    cause = not.cause;
    complained = not.complained;
    silent = keeps_kept o o' o'' not.silent kept;
    is = not.is;
  })),
)
disassembled_kept block stated further file o o' o'' e e' s kept (inr not) = inr (unread_kept file o o' o'' e e' s kept not)

among_kept : (block : BlockText) (all : List (List ℕ × ℕ)) (file : List ℕ) (names : List (List ℕ)) (o o' o'' e e' : Option (List ℕ)) (s : ℕ) → Keeps o' o''
    → IsBlockAmong block all file names o o' e e' s ⊎ IsNoneAmong all names o o' e e' s
    → IsBlockAmong block all file names o o'' e e' s ⊎ IsNoneAmong all names o o'' e e' s
among_kept block all file names o o' o'' e e' s kept (inl among) = inl (record {
  further = among.further;
  said = among.said;
  adds = among.adds;
  disassembles = disassembled_kept block all among.further file o o' o'' among.said e' s kept among.disassembles;
})
among_kept block all file names o o' o'' e e' s kept (inr none) = inr (record {
  further = none.further;
  adds = none.adds;
  some = none.some;
  silent = keeps_kept o o' o'' none.silent kept;
})

block_kept : (block : BlockText) (file : List ℕ) (words : List (List ℕ)) (o o' o'' e e' : Option (List ℕ)) (s : ℕ) → Keeps o' o''
    → IsBlockShown block file words o o' e e' s → IsBlockShown block file words o o'' e e' s
block_kept block file words o o' o'' e e' s kept (inl all) =
    inl (record { all = all.all; stated = all.stated; disassembles = among_kept block all.all file _ o o' o'' e e' s kept all.disassembles })
block_kept block file words o o' o'' e e' s kept (inr not) = inr (unstated_kept _ o o' o'' e e' s kept not)

text_kept : (asl force : Bool) (name text file : List ℕ) (o o' o'' e e' : Option (List ℕ)) (s : ℕ) → Keeps o' o''
    → MakesOf asl force name text file o o' e e' s → MakesOf asl force name text file o o'' e e' s
text_kept true force name text file o o' o'' e e' s kept (inl made) = inl (record {
  bytes = made.bytes;
  between = made.between;
  compiled = made.compiled;
  wrote = written_kept made.bytes file o o' o'' made.between e' s kept made.wrote;
})
text_kept true force name text file o o' o'' e e' s kept (inr none) =
    inr (record { not = none.not; silent = keeps_kept o o' o'' none.silent kept; is = none.is })
text_kept false force name text file o o' o'' e e' s kept (inl made) = inl (record {
  bytes = made.bytes;
  between = made.between;
  made = made.made;
  wrote = written_kept made.bytes file o o' o'' made.between e' s kept made.wrote;
})
text_kept false force name text file o o' o'' e e' s kept (inr none) =
    inr (record { not = none.not; silent = keeps_kept o o' o'' none.silent kept; is = none.is })

word_kept : (force : Bool) (name file : List ℕ) (o o' o'' e e' : Option (List ℕ)) (s : ℕ) → Keeps o' o''
    → MakesWord force name file o o' e e' s → MakesWord force name file o o'' e e' s
word_kept force name file o o' o'' e e' s kept (inl (text, made)) =
    inl (text, text_kept (is_asl text) force name text file o o' o'' e e' s kept made)
word_kept force name file o o' o'' e e' s kept (inr not) = inr (unread_kept name o o' o'' e e' s kept not)

made_kept : (force : Bool) (name file : List ℕ) (o o' o'' e e' : Option (List ℕ)) (s : ℕ) → Keeps o' o''
    → Makes force name file o o' e e' s → Makes force name file o o'' e e' s
made_kept force name file o o' o'' e e' s kept (inl its) = inl (record {
  other = its.other;
  complained = its.complained;
  silent = keeps_kept o o' o'' its.silent kept;
  is = its.is;
})
made_kept force name file o o' o'' e e' s kept (inr word) = inr (word_kept force name file o o' o'' e e' s kept word)

file_drawn_kept : (dot : Bool) (name : List ℕ) (o o' o'' e e' : Option (List ℕ)) (s : ℕ) → Keeps o' o''
    → DrawsFile dot name o o' e e' s → DrawsFile dot name o o'' e e' s
file_drawn_kept dot name o o' o'' e e' s kept (inl (bytes, inl all)) = inl (
  bytes,
  inl (record { walk = all.walk; has = all.has; wrote = appends_kept o o' o'' _ all.wrote kept; told = all.told }),
)
file_drawn_kept dot name o o' o'' e e' s kept (inl (bytes, inr not)) = inl (
  bytes,
  inr (record {
    fault = not.fault;
    cause = not.cause;
    complained = not.complained;
    silent = keeps_kept o o' o'' not.silent kept;
    is = not.is;
  }),
)
file_drawn_kept dot name o o' o'' e e' s kept (inr not) = inr (unread_kept name o o' o'' e e' s kept not)

image_drawn_kept : (dot : Bool) (name : List ℕ) (base : ℕ) (o o' o'' e e' : Option (List ℕ)) (s : ℕ) → Keeps o' o''
    → DrawsImage dot name base o o' e e' s → DrawsImage dot name base o o'' e e' s
image_drawn_kept dot name base o o' o'' e e' s kept (inl (bytes, inl all)) = inl (
  bytes,
  inl (record { tables = all.tables; found = all.found; wrote = appends_kept o o' o'' _ all.wrote kept; silent = all.silent; is = all.is }),
)
image_drawn_kept dot name base o o' o'' e e' s kept (inl (bytes, inr not)) = inl (
  bytes,
  inr (record {
    fault = not.fault;
    cause = not.cause;
    complained = not.complained;
    silent = keeps_kept o o' o'' not.silent kept;
    is = not.is;
  }),
)
image_drawn_kept dot name base o o' o'' e e' s kept (inr not) = inr (unread_kept name o o' o'' e e' s kept not)

drawn_kept : (dot : Bool) (word : List ℕ) (o o' o'' e e' : Option (List ℕ)) (s : ℕ) → Keeps o' o''
    → Draws dot word o o' e e' s → Draws dot word o o'' e e' s
drawn_kept dot word o o' o'' e e' s kept (inl file) = inl (file_drawn_kept dot word o o' o'' e e' s kept file)
drawn_kept dot word o o' o'' e e' s kept (inr (file, base, is, image)) =
    inr (file, base, is, image_drawn_kept dot file base o o' o'' e e' s kept image)

templated_kept : (known : Bool) (signature : List ℕ) (o o' o'' e e' : Option (List ℕ)) (s : ℕ) → Keeps o' o''
    → IsTemplated known signature o o' e e' s → IsTemplated known signature o o'' e e' s
templated_kept true signature o o' o'' e e' s kept done = (done.0, done.1, appends_kept o o' o'' _ done.2 kept, done.3, done.4)
templated_kept false signature o o' o'' e e' s kept done = (done.0, keeps_kept o o' o'' done.1 kept, done.2)

done_kept : (o o' o'' e e' : Option (List ℕ)) (s : ℕ) (command : Command) → Keeps o' o'' → IsDone command o o' e e' s → IsDone command o o'' e e' s
done_kept o o' o'' e e' s Help kept done = (done.0, done.1, appends_kept o o' o'' _ done.2 kept, done.3)
done_kept o o' o'' e e' s Version kept done = (done.0, appends_kept o o' o'' _ done.1 kept, done.2)
done_kept o o' o'' e e' s (Show style files numbers) kept done = shown_kept style _ _ o o' o'' e e' s kept done
done_kept o o' o'' e e' s (Json files) kept done = listed_kept _ o o' o'' e e' s kept done
done_kept o o' o'' e e' s (Check json files) kept done = checked_kept json _ o o' o'' e e' s kept done
done_kept o o' o'' e e' s (Image json file base) kept done = image_kept json file.now base o o' o'' e e' s kept done
done_kept o o' o'' e e' s (Template signature) kept done = templated_kept (is_known signature.now) signature.now o o' o'' e e' s kept done
done_kept o o' o'' e e' s (Disassemble file numbers) kept done = block_kept blocks.Asl file.now (map (λ word. string_bytes word) numbers.now) o o' o'' e e' s kept done
done_kept o o' o'' e e' s (Names json file numbers) kept done = block_kept (names_text json) file.now (map (λ word. string_bytes word) numbers.now) o o' o'' e e' s kept done
done_kept o o' o'' e e' s (Unpack file folder base) kept done = unpacked_kept file.now folder.now base o o' o'' e e' s kept done
done_kept o o' o'' e e' s (Cpio folder file) kept done = archived_kept folder.now file.now o o' o'' e e' s kept done
done_kept o o' o'' e e' s (Lay rsdp folder file base) kept done = lays_kept rsdp folder.now file.now base o o' o'' e e' s kept done
done_kept o o' o'' e e' s (Loader folder to) kept done = loaded_kept folder.now to.now o o' o'' e e' s kept done
done_kept o o' o'' e e' s (Repair name file) kept done = repaired_kept name.now file.now o o' o'' e e' s kept done
done_kept o o' o'' e e' s (Diff first second) kept done = compared_kept first.now second.now o o' o'' e e' s kept done
done_kept o o' o'' e e' s (Tree dot file) kept done = drawn_kept dot file.now o o' o'' e e' s kept done
done_kept o o' o'' e e' s (Make force text file) kept done = made_kept force text.now file.now o o' o'' e e' s kept done

pub ended_kept : (words : List (List ℕ)) (o o' o'' e e' : Option (List ℕ)) (s : ℕ) → Keeps o' o'' → Ended words o o' e e' s → Ended words o o'' e e' s
ended_kept words o o' o'' e e' s kept (inl done) =
    inl (record { command = done.command; asked = done.asked; done = done_kept o o' o'' e e' s done.command kept done.done })
ended_kept words o o' o'' e e' s kept (inr wrong) = inr (record {
  wrong = wrong.wrong;
  is_wrong = wrong.is_wrong;
  is = wrong.is;
  complained = wrong.complained;
  silent = keeps_kept o o' o'' wrong.silent kept;
})
