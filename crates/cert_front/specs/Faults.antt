-- What the faults of reading a file, and of its text, are as faults of a certificate.
use Rattle.outside_io.specs.declared.whole.FileError.{FileError}
use Rattle.outside_io.specs.declared.whole.FileError.TheVariants as file
use Rattle.cert_reader.specs.declared.error.CertError.{CertError}
use Rattle.cert_reader.specs.declared.error.CertError.TheVariants as text
use Rattle.cert_front.specs.declared.fault.CertFault.{CertFault}
use Rattle.cert_front.specs.declared.fault.CertFault.TheVariants.{Absent, TooLong, ReadFault, Syntax, Version, Memory}

abbrev pub fault_of_file : FileError → CertFault
fault_of_file file.Absent = Absent
fault_of_file file.TooLong = TooLong
fault_of_file file.ReadFault = ReadFault
fault_of_file file.Memory = Memory

abbrev pub fault_of_text : CertError → CertFault
fault_of_text (text.Syntax line) = Syntax line
fault_of_text (text.Version word) = Version word
fault_of_text text.Memory = Memory
