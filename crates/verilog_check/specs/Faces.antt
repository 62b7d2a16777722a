-- The ports that a module is to have, by the face that is asked for.
use Rattle.verilog_tree.specs.Checks as checks
use Rattle.verilog_tree.specs.Checks.{filter_face}
use Rattle.verilog_tree.specs.Streamed.{stream_face}
use Rattle.verilog_check.specs.declared.face.Face.{Face}
use Rattle.verilog_check.specs.declared.face.Face.TheVariants.{Filter, Stream}

abbrev pub face_of : Face → checks.Face
face_of Filter = filter_face
face_of Stream = stream_face
