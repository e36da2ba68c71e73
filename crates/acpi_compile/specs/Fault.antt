-- What is wrong with a text, as it is printed.
use Rattle.std.specs.Prelude.{ℕ, ◌==◌, if◌then◌else◌, List, [], ◌∷◌, ◌++◌, map, codes}
use Rattle.std.specs.Fmt.{decimal}
use Rattle.acpi_read.specs.Report.{printable}
use Rattle.acpi_compile.specs.declared.fault.Why.{Why}
use Rattle.acpi_compile.specs.declared.fault.Why.TheVariants as why
use Rattle.acpi_compile.specs.Squeeze.{squeezed, word_at, line_of}

-- how many arguments a method takes, and how many a call of it has
abbrev pub argument_word : ℕ → List ℕ
argument_word takes = if takes == 1 then codes " argument, found " else codes " arguments, found "

abbrev pub takes_text : ℕ → ℕ → List ℕ
takes_text takes found = codes "takes " ++ decimal takes ++ argument_word takes ++ decimal found

abbrev pub otherwise : List ℕ → List ℕ
otherwise [] = codes "the ASL of the block ends here"
otherwise (c ∷ word) = codes "the ASL of the block has " ++ map printable (c ∷ word)

abbrev pub undeclared : List ℕ → List ℕ
undeclared name = codes "no External statement for " ++ map printable name

abbrev pub words : Why → List ℕ
words why.Block = codes "a DefinitionBlock is expected, and nothing after it"
words why.FileName = codes "the name of a file isn't read here: \"\" is expected"
words why.Signature = codes "the signature DSDT, SSDT, PSDT or OSDT is expected"
words why.Unexpected = codes "not expected here"
words why.Symbol = codes "operators are words here, such as Add and Store"
words why.Unfinished = codes "a parenthesis, a brace or a string has no end"
words why.Comment = codes "a comment has no end"
words why.TooDeep = codes "nested too deep"
words why.Arguments = codes "other arguments are expected, of which none may be left out"
words (why.Takes takes found) = takes_text takes found
words why.Elements = codes "more elements than the package says"
words why.Number = codes "a number is expected: 0x and 2, 4, 8 or 16 digits"
words why.OneByte = codes "a number of one byte is expected: 0x and 2 digits"
words why.TwoBytes = codes "a number of two bytes is expected: 0x and 4 digits"
words why.FourBytes = codes "a number of four bytes is expected: 0x and 8 digits"
words why.EightBytes = codes "a number of eight bytes is expected: 0x and 16 digits"
words why.Count = codes "a decimal number is expected that isn't too large here"
words why.Text = codes "a string of ASCII characters is expected, and no longer than fits here"
words why.Escape = codes "a backslash is followed by a backslash, a quotation mark, or x and two digits"
words why.Uuid = codes "a UUID is expected: 8-4-4-4-12 hexadecimal digits"
words why.EisaId = codes "an EISA id is expected: 3 letters and 4 digits"
words why.Word = codes "neither a keyword that is read here nor a name (parts of up to 4 capitals, digits or _)"
words why.Keyword = codes "another keyword is expected"
words why.Entry = codes "not an entry of a field"
words why.Descriptor = codes "not a macro of a resource descriptor"
words why.DescriptorName = codes "the name of a descriptor isn't read here"
words why.Group = codes "a StartDependentFn has no EndDependentFn, or an EndDependentFn ends none"
words why.Values = codes "the descriptor can't have one of these values, or this list"
words why.Index = codes "a resource source needs an index"
words why.VendorData = codes "a RawDataBuffer is expected"
words why.Note = codes "the note isn't known here"
words why.Unread = codes "these bytes can't be read as terms, so they make no block"
words why.Unreadable = codes "what follows can't be read back as terms: a call may lack arguments"
words why.TooLong = codes "a length or a number is too large"
words (why.Undeclared name) = undeclared name.items
words (why.Otherwise word) = otherwise word.items
words why.Loop = codes "no While is around it"
words why.Twice = codes "its scope already has an object of this name"
words why.Level = codes "the sync level of a mutex is at most 0x0F"
words why.NoArgument = codes "the method has no such argument"
words why.Reference = codes "a name, a local object or another reference is expected"
words why.Parent = codes "no statement makes or declares the object around it"
words why.Value = codes "it has no value"
words why.Element = codes "a package has constants, names, buffers and packages"
words why.Bytes = codes "it has more bytes than its size"
words why.Call = codes "a call has parentheses"
words why.Else = codes "no If is before it"

abbrev pub place_text : List ℕ → List ℕ
place_text [] = codes "at the end: "
place_text (c ∷ word) = codes "at " ++ map printable (c ∷ word) ++ codes ": "

-- what is wrong with a text after this many kept characters
abbrev pub explained : ℕ → Why → List ℕ → List ℕ
explained at why text =
    codes "line " ++ decimal (line_of at text) ++ codes ", " ++ place_text (word_at at (squeezed text)) ++ words why
