-- What a server writes before the bytes of a reply, and in place of one.
use Rattle.std.specs.Prelude.{ℕ, List, ◌++◌, codes, decimal}
use Rattle.bus_http.specs.declared.reply.Refused.{Refused}
use Rattle.bus_http.specs.declared.reply.Refused.TheVariants.{BadRequest, NotFound, MethodNotAllowed, HeadTooLarge, ServerError}

-- the lines before the length, the space behind its name included
unfoldable pub reply_front : List ℕ
reply_front = codes "HTTP/1.1 200 OK\r\nContent-Type: application/octet-stream\r\nContent-Length: "

-- the end of a line, and an empty one
unfoldable pub head_close : List ℕ
head_close = codes "\r\n\r\n"

-- the head of an answer whose body has so many bytes
abbrev pub reply_head : ℕ → List ℕ
reply_head size = reply_front ++ decimal size ++ head_close

-- an answer that refuses a request, and closes the connection
unfoldable pub refusal : Refused → List ℕ
refusal BadRequest = codes "HTTP/1.1 400 Bad Request\r\nContent-Length: 0\r\nConnection: close\r\n\r\n"
refusal NotFound = codes "HTTP/1.1 404 Not Found\r\nContent-Length: 0\r\nConnection: close\r\n\r\n"
refusal MethodNotAllowed = codes "HTTP/1.1 405 Method Not Allowed\r\nAllow: GET\r\nContent-Length: 0\r\nConnection: close\r\n\r\n"
refusal HeadTooLarge = codes "HTTP/1.1 431 Request Header Fields Too Large\r\nContent-Length: 0\r\nConnection: close\r\n\r\n"
refusal ServerError = codes "HTTP/1.1 500 Internal Server Error\r\nContent-Length: 0\r\nConnection: close\r\n\r\n"
